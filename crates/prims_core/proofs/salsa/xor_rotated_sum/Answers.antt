-- The clause of `xor_rotated_sum` is what `rotated_sum-in_lanes` says of vectors with four lanes.
use Rattle.prims_core.proofs.RotatedLanes.{rotated_sum-in_lanes}
use Rattle.prims_core.proofs.salsa.xor_rotated_sum.Goals as goal

pub returns : goal.returns
returns c =
    rotated_sum-in_lanes c.args.bits c.requires.0 c.requires.1 c.args.word c.fits-word.0 c.args.x c.fits-x.0 c.args.y c.fits-y.0
