use Rattle.std.proofs.Common.{refl, sym, ◌∙◌}
use Rattle.std.proofs.lemmas.Option.{slice_get_read}
use Rattle.path_cache.proofs.Searching.{found-at, past-marked, past-other}
use Rattle.path_cache.proofs.keeping.search_unmarked.Goals as goal
use Rattle.path_cache.proofs.keeping.search_unmarked.Goals.{else-not-marks-place-via-then-not-marks-place+else-is_of, else-not-marks-place-via-else-not-marks-place}

pub returns-then-is_of-clause-some : goal.returns-then-is_of-clause-some
returns-then-is_of-clause-some c = (
  c.loop-place-test.true,
  slice_get_read c.args.kept.now _ c.loop-place.place c.index-kept-place.result refl c.loop-place-test.true c.index-kept-place.is
      ∙ found-at c.args.name.now c.args.kept.now c.args.marks.now c.loop-place.place c.index-kept-place.result c.loop-place-test.true c.requires c.index-kept-place.is
      c.if-not-marks-place.true (sym c.if-is_of.ensures) c.loop-place.invariant,
)

pub loop-place-preserved : goal.loop-place-preserved
loop-place-preserved c =
    let here = c.index-kept-place.result in
    elim c.else-not-marks-place.branch [
      | else-not-marks-place-via-then-not-marks-place+else-is_of w ↦
          past-other c.args.name.now c.args.kept.now c.args.marks.now c.loop-place.place here c.loop-place-test.true c.requires c.index-kept-place.is
          (sym w.if-is_of.ensures) c.loop-place.invariant
      | else-not-marks-place-via-else-not-marks-place w ↦
          past-marked c.args.name.now c.args.kept.now c.args.marks.now c.loop-place.place here c.loop-place-test.true c.requires c.index-kept-place.is
          w.if-not-marks-place.false c.loop-place.invariant
    ]
