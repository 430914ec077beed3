use Rattle.std.proofs.Common.{refl, sym, ◌∙◌}
use Rattle.std.proofs.lemmas.Option.{slice_get_read}
use Rattle.path_cache.proofs.Searching.{hint-marked, hint-plain}
use Rattle.path_cache.proofs.keeping.find_unmarked.Goals as goal

pub returns-then-marks-first-clause-none : goal.returns-then-marks-first-clause-none
returns-then-marks-first-clause-none c =
    sym (hint-marked c.args.name.now c.args.kept.now c.args.marks.now c.args.first c.index-kept-first.result c.requires.apart c.if-first-kept.true
    c.requires.one_each c.index-kept-first.is (sym c.if-is_of.ensures) c.if-marks-first.true)

pub returns-else-marks-first-clause-some : goal.returns-else-marks-first-clause-some
returns-else-marks-first-clause-some c = (
  c.if-first-kept.true,
  slice_get_read c.args.kept.now _ c.args.first c.index-kept-first.result refl c.if-first-kept.true c.index-kept-first.is
      ∙ hint-plain c.args.name.now c.args.kept.now c.args.marks.now c.args.first c.index-kept-first.result c.requires.apart c.if-first-kept.true
      c.requires.one_each c.index-kept-first.is (sym c.if-is_of.ensures) c.if-marks-first.false,
)
