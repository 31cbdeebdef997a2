use Rattle.ui2d.specs.Quads.{quad_at}
use Rattle.ui2d.proofs.load_quad.Goals as goal

pub returns : goal.returns
unfolding quad_at
returns c = rw (c.load_vector-bottom_right.ensures, c.load_vector-bottom_left.ensures, c.load_vector-top_right.ensures, c.load_vector-top_left.ensures)
