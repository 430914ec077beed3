use Rattle.std.proofs.Common.{◌≡◌, get_or, ◌∙◌, ◌++◌, ◌+◌, List, Bool, sym, subst, take, drop, refl, true, false}
use Rattle.std.proofs.lemmas.List.{get_or_default}
use Rattle.map_board.proofs.InTurn.{marks_of, past-touched, past-plain, one-touched, one-plain}
use Rattle.map_board.proofs.edits.marking.mark_tested.Goals as goal
use Rattle.map_board.proofs.edits.marking.mark_tested.Goals.{then-test, else-test}

pub loop-place-preserved : goal.loop-place-preserved
loop-place-preserved c =
    let ts = c.args.tests.now in
    let i = c.loop-place.place in
    let test = λ (t : Bool). t in
    let all = marks_of test ts c.args.marks.now in
    let after = λ (marks : List Bool). take (i + 1) marks ++ marks_of test (drop (i + 1) ts) (drop (i + 1) marks) ≡ all in
    let before = c.loop-place.invariant in
    let found : (t : Bool) → get_or ts i false ≡ t → t ≡ get_or ts i t = λ t is. sym (get_or_default ts i t false c.loop-place-test.true ∙ is) in
    record {
      one_each = c.if-test.auto.marks ∙ before.one_each;
      so_far = elim c.if-test.branch [
        | then-test w ↦ subst after (sym w.marks-is)
            (past-touched test ts c.loop-place.marks all i true c.loop-place-test.true before.one_each (found true w.if-test.true) refl before.so_far)
        | else-test w ↦ subst after (sym w.marks-is)
            (past-plain test ts c.loop-place.marks all i false c.loop-place-test.true before.one_each (found false w.if-test.false) refl before.so_far)
      ];
      one = elim c.if-test.branch [
        | then-test w ↦ w.one-is ∙ one-touched test ts i true c.loop-place-test.true (found true w.if-test.true) refl
        | else-test w ↦ w.one-is ∙ (before.one ∙ one-plain test ts i false c.loop-place-test.true (found false w.if-test.false) refl)
      ];
    }
