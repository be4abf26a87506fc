-- The clause of `row_round`. The lanes of a rotated vector are four lanes in a row of the vector joined to itself
-- (`slice_index-append_self`). So lane j of the four rotated diagonals is row j, from its word on the main diagonal on,
-- and the quarter round of lane j is the quarter round of row j. The rotations back put each word in its place.
use Rattle.std.proofs.Common.{refl, arith, rules}
use Rattle.prims_core.specs.Words.{chunks_exact}
use Rattle.prims_core.specs.Salsa.{row_round}
use Rattle.prims_core.proofs.RotatedLanes.{slice_index-append_self}
use Rattle.prims_core.proofs.salsa.row_round.Goals as goal

pub returns-clause-rows : goal.returns-clause-rows
unfolding row_round chunks_exact
returns-clause-rows c =
    let x = c.x.inside in
    let second_lanes = slice_index-append_self x.second c.x.invariant.1 in
    let third_lanes = slice_index-append_self x.third c.x.invariant.2 in
    let fourth_lanes = slice_index-append_self x.fourth c.x.invariant.3 in
    let new = c.quarter_rounds.result in
    let back_to_fourth = slice_index-append_self new.1 (search rules) in
    let back_to_third = slice_index-append_self new.2 (search rules) in
    let back_to_second = slice_index-append_self new.3 (search rules) in
    rw (
      back_to_fourth.0,
      back_to_fourth.1,
      back_to_fourth.2,
      back_to_fourth.3,
      back_to_third.0,
      back_to_third.1,
      back_to_third.2,
      back_to_third.3,
      back_to_second.0,
      back_to_second.1,
      back_to_second.2,
      back_to_second.3,
      ← c.x.view_is,
      ← rw (fourth_lanes.1, third_lanes.2, second_lanes.3) at (c.quarter_rounds.ensures 0 (omega arith)),
      ← rw (fourth_lanes.2, third_lanes.3, second_lanes.0) at (c.quarter_rounds.ensures 1 (omega arith)),
      ← rw (fourth_lanes.3, third_lanes.0, second_lanes.1) at (c.quarter_rounds.ensures 2 (omega arith)),
      ← rw (fourth_lanes.0, third_lanes.1, second_lanes.2) at (c.quarter_rounds.ensures 3 (omega arith)),
    ) refl
