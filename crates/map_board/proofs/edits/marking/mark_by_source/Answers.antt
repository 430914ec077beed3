use Rattle.std.proofs.Common.{◌≡◌, ◌∙◌, ◌++◌, ◌+◌, List, Bool, sym, subst, take, drop}
use Rattle.map_board.specs.inner.Marks.{is_from, marks_from}
use Rattle.map_board.proofs.InTurn.{past-touched, past-plain, one-touched, one-plain}
use Rattle.map_board.proofs.edits.marking.mark_by_source.Goals as goal
use Rattle.map_board.proofs.edits.marking.mark_by_source.Goals.{then-is_from, else-is_from}

pub loop-place-preserved : goal.loop-place-preserved
loop-place-preserved c =
    let bs = c.args.bundles.now in
    let i = c.loop-place.place in
    let touch = is_from c.args.name.now in
    let all = marks_from c.args.name.now in
    let after = λ (marks : List Bool). take (i + 1) marks ++ all (drop (i + 1) bs) (drop (i + 1) marks) ≡ all bs c.args.marks.now in
    let before = c.loop-place.invariant in
    record {
      one_each = c.if-is_from.auto.marks ∙ before.one_each;
      so_far = elim c.if-is_from.branch [
        | then-is_from w ↦ subst after (sym w.marks-is)
            (past-touched touch bs c.loop-place.marks (all bs c.args.marks.now) i c.index-bundles-place.result c.loop-place-test.true before.one_each
            c.index-bundles-place.is (sym w.if-is_from.ensures) before.so_far)
        | else-is_from w ↦ subst after (sym w.marks-is)
            (past-plain touch bs c.loop-place.marks (all bs c.args.marks.now) i c.index-bundles-place.result c.loop-place-test.true before.one_each
            c.index-bundles-place.is (sym w.if-is_from.ensures) before.so_far)
      ];
      one = elim c.if-is_from.branch [
        | then-is_from w ↦ w.one-is ∙ one-touched touch bs i c.index-bundles-place.result c.loop-place-test.true c.index-bundles-place.is (sym w.if-is_from.ensures)
        | else-is_from w ↦ w.one-is ∙ (before.one ∙ one-plain touch bs i c.index-bundles-place.result c.loop-place-test.true c.index-bundles-place.is (sym w.if-is_from.ensures))
      ];
    }
