use Rattle.touch_test.proofs.Untouched.{untouched-paths-stay, untouched-in-turn}
use Rattle.touch_test.proofs.laws.untouched_paths_stay.Goals as goal

pub returns-clause-each : goal.returns-clause-each
returns-clause-each c = untouched-paths-stay c.uncrossed_is_unblocked.ensures c.accepted_edits_change_pieces.ensures

pub returns-clause-in_turn : goal.returns-clause-in_turn
returns-clause-in_turn c =
    untouched-in-turn (untouched-paths-stay c.uncrossed_is_unblocked.ensures c.accepted_edits_change_pieces.ensures)
