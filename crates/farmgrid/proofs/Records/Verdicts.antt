-- The verdicts on records of the farm grid are exact: what an operation answers is the verdict of its values, which is the exact one for any list of planes.
use lib.Ieee.Bits.{is_true}
use Rattle.matrix.specs.Vec.{vec3_of}
use Rattle.verdict.specs.BBox.{box_of}
use Rattle.verdict.specs.BBoxCalls.{flagged}
use Rattle.verdict.specs.View.{planes_of}
use Rattle.verdict.specs.Frustum.{point_in_view, segment_in_view, box_in_view}
use Rattle.farmgrid.specs.Verdicts.{PointExact, SegmentExact, BoxExact}
use Rattle.farmgrid.proofs.Records.FiniteNumbers.{point_finite, box_record_finite, view_finite}
use Rattle.farmgrid.proofs.Records.Answers.{point_answer, segment_answer, box_answer}
use Rattle.farmgrid.proofs.Segments.Segment.{point_is, segment_is}
use Rattle.farmgrid.proofs.Boxes.BoxInView.{box_is}

pub point_exact : PointExact
point_exact v p Ps A W P = record {
  verdict = point_in_view (planes_of v W.count) (vec3_of p);
  answered = point_answer v W.volume (view_finite W) p P.numbers (point_finite P);
  exact = point_is W.planes P.point;
}

pub segment_exact : SegmentExact
segment_exact v p q Ps A B W P Q = record {
  verdict = segment_in_view (planes_of v W.count) (vec3_of p) (vec3_of q);
  answered = segment_answer v W.volume (view_finite W) p q P.numbers Q.numbers (point_finite P) (point_finite Q);
  exact = segment_is W.planes P.point Q.point;
}

pub box_exact : BoxExact
box_exact v b Ps B W S C = record {
  verdict = box_in_view (planes_of v W.count) (box_of b);
  answered = box_answer v W.volume (view_finite W) b C.numbers (is_true (flagged b) C.flag) (box_record_finite C);
  exact = box_is W.planes S C.box;
}
