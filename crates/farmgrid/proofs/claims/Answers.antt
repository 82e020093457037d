-- `farmgrid::claims` meets its contract: each claim by its theorem. Assumes nothing.
use Rattle.farmgrid.proofs.Records.Counts.{count_exact}
use Rattle.farmgrid.proofs.Records.Verdicts.{point_exact, segment_exact, box_exact}
use Rattle.farmgrid.proofs.Clip.ClipSpace.{never_lost, nothing_rounded, clip_exact}
use Rattle.farmgrid.proofs.Clip.ClipOutside.{found_outside}
use Rattle.farmgrid.proofs.Clip.ClipPlanes.{planes_exact, point_by_matrices, one_view, endless_made}
use Rattle.farmgrid.proofs.Records.MorePlanes.{point_screened, segment_screened, box_screened, each_plane_screens}
use Rattle.farmgrid.proofs.Records.BlockingPlane.{blocking_exact}
use Rattle.farmgrid.proofs.Records.PlanesBehind.{behind_exact}
use Rattle.farmgrid.proofs.Records.WholeRecords.{whole_segment_exact}
use Rattle.farmgrid.proofs.Records.BothEngines.{one_verdict, one_answer}
use Rattle.farmgrid.proofs.ExactVerdict.ExactBoxes.{box_verdict_exact, filed_agrees, exact_screened}
use Rattle.farmgrid.proofs.ExactVerdict.ExactRecords.{records_exact}
use Rattle.farmgrid.proofs.Turn.ExactTurned.{exact_turned}
use Rattle.farmgrid.proofs.ExactVerdict.ExactByRecords.{by_records, one_block, turned_by_records, filed_agrees_by_records, seven_off_grid}
use Rattle.farmgrid.proofs.ExactVerdict.FiledApart.{filed_apart}
use Rattle.farmgrid.proofs.NearestRange.Nearest.{nearest_exact, within_exact}
use Rattle.farmgrid.proofs.Records.Survey.{survey_exact}
use Rattle.farmgrid.proofs.Turn.Turns.{turn_keeps}
use Rattle.farmgrid.proofs.Group.Mixed.{combining_exact, grouping_exact}
use Rattle.farmgrid.proofs.Group.GroupOut.{group_out}
use Rattle.farmgrid.proofs.Group.PrintedZeros.{combined_signs, printed_once}
use Rattle.farmgrid.proofs.claims.Goals as goal

pub returns : goal.returns
returns c = record {
  count_exact = count_exact;
  point_exact = point_exact;
  segment_exact = segment_exact;
  box_exact = box_exact;
  never_lost = never_lost;
  nothing_rounded = nothing_rounded;
  clip_exact = clip_exact;
  found_outside = found_outside;
  planes_exact = planes_exact;
  point_by_matrices = point_by_matrices;
  one_view = one_view;
  endless_made = endless_made;
  point_screened = point_screened;
  segment_screened = segment_screened;
  box_screened = box_screened;
  each_plane_screens = each_plane_screens;
  blocking_exact = blocking_exact;
  behind_exact = behind_exact;
  whole_segment_exact = whole_segment_exact;
  one_verdict = one_verdict;
  one_answer = one_answer;
  box_verdict_exact = box_verdict_exact;
  filed_agrees = filed_agrees;
  records_exact = records_exact;
  exact_screened = exact_screened;
  exact_turned = exact_turned;
  by_records = by_records;
  one_block = one_block;
  turned_by_records = turned_by_records;
  filed_agrees_by_records = filed_agrees_by_records;
  seven_off_grid = seven_off_grid;
  filed_apart = filed_apart;
  nearest_exact = nearest_exact;
  within_exact = within_exact;
  survey_exact = survey_exact;
  turn_keeps = turn_keeps;
  combining_exact = combining_exact;
  grouping_exact = grouping_exact;
  group_out = group_out;
  combined_signs = combined_signs;
  printed_once = printed_once;
}
