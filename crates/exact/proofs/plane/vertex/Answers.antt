-- `vertex` meets its contract: three cross products, their dot products with the distances, and the determinant. Assumes nothing.
use Rattle.exact.proofs.Machine.{plane_sized}
use Rattle.exact.proofs.Vertices.{determinant_products, products_x, products_y, products_z, over_given, vertex_only}
use Rattle.exact.proofs.plane.vertex.Goals as goal

pub cross-bc-requires : goal.cross-bc-requires
cross-bc-requires c = (plane_sized c.args.b c.requires.1, plane_sized c.args.c c.requires.2)

pub cross-ca-requires : goal.cross-ca-requires
cross-ca-requires c = (plane_sized c.args.c c.requires.2, plane_sized c.args.a c.requires.0)

pub cross-ab-requires : goal.cross-ab-requires
cross-ab-requires c = (plane_sized c.args.a c.requires.0, plane_sized c.args.b c.requires.1)

pub dot-k-requires : goal.dot-k-requires
dot-k-requires c =
    determinant_products c.args.a c.args.b c.args.c c.requires.0 c.requires.1 c.requires.2 c.cross-ab.result c.cross-ab.ensures

pub dot-requires : goal.dot-requires
dot-requires c =
    products_x c.args.a c.args.b c.args.c c.requires.0 c.requires.1 c.requires.2
    c.cross-bc.result c.cross-ca.result c.cross-ab.result c.cross-bc.ensures c.cross-ca.ensures c.cross-ab.ensures

pub dot-requires-2 : goal.dot-requires-2
dot-requires-2 c =
    products_y c.args.a c.args.b c.args.c c.requires.0 c.requires.1 c.requires.2
    c.cross-bc.result c.cross-ca.result c.cross-ab.result c.cross-bc.ensures c.cross-ca.ensures c.cross-ab.ensures

pub dot-requires-3 : goal.dot-requires-3
dot-requires-3 c =
    products_z c.args.a c.args.b c.args.c c.requires.0 c.requires.1 c.requires.2
    c.cross-bc.result c.cross-ca.result c.cross-ab.result c.cross-bc.ensures c.cross-ca.ensures c.cross-ab.ensures

pub over-requires : goal.over-requires
over-requires c =
    over_given c.args.a c.args.b c.args.c c.requires.0 c.requires.1 c.requires.2
    c.cross-bc.result c.cross-ca.result c.cross-ab.result c.cross-bc.ensures c.cross-ca.ensures c.cross-ab.ensures
    c.dot-k.result c.dot.result c.dot-2.result c.dot-3.result c.dot-k.ensures c.dot.ensures c.dot-2.ensures c.dot-3.ensures

pub returns : goal.returns
returns c =
    vertex_only c.args.a c.args.b c.args.c c.requires.0 c.requires.1 c.requires.2
    c.cross-bc.result c.cross-ca.result c.cross-ab.result c.cross-bc.ensures c.cross-ca.ensures c.cross-ab.ensures
    c.dot-k.result c.dot.result c.dot-2.result c.dot-3.result c.dot-k.ensures c.dot.ensures c.dot-2.ensures c.dot-3.ensures c.over.result c.over.ensures
