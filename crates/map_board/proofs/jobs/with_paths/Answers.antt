use Rattle.std.proofs.Common.{◌≡◌, ℕ, ◌+◌, ◌<◌, List, [], ◌∷◌, ◌++◌, length, take, get_or, ap, sym, subst, ◌∙◌}
use Rattle.std.specs.Prelude.{slice_set}
use Rattle.std.proofs.lemmas.List.{take_all, take_more}
use Rattle.path_calc.specs.Bundles.{Bundle}
use Rattle.path_cache.specs.declared.replacing.Replaced.{Replaced}
use Rattle.path_cache.specs.Renewals.{with_each}
use Rattle.path_cache.proofs.Placing.{each-push}
use Rattle.touch_test.specs.Envelopes.{TellsOf}
use Rattle.map_board.proofs.jobs.with_paths.Goals as goal

-- the bundles with one new one more in its place
one-more : (news : List Replaced) (i : ℕ) (new : Replaced) (kept : List Bundle) → i < length news → new ≡ get_or news i new
    → with_each (take (i + 1) news) kept ≡ slice_set (with_each (take i news) kept) new.place new.bundle.value
one-more news i new kept below is =
    ap (λ ns. with_each ns kept) (take_more news i new below ∙ ap (λ x. take i news ++ x ∷ []) (sym is))
    ∙ each-push (take i news) new kept

pub loop-new-init : goal.loop-new-init
loop-new-init c kept tells = tells

pub loop-new-preserved : goal.loop-new-preserved
loop-new-preserved c kept tells =
    let news = c.args.news.now in
    let i = c.loop-new.new-index in
    let new = c.new-item.result in
    let row = with_each (take i news) kept in
    subst (TellsOf c.with_path-wide.result)
    (ap (slice_set row new.place) c.deref.ensures ∙ sym (one-more news i new kept c.loop-new-test.true c.new-item.is))
    (c.with_path-wide.ensures.tells row new.place (c.loop-new.invariant kept tells))

pub returns : goal.returns
returns c kept tells =
    subst (TellsOf c.loop-new.wide) (ap (λ ns. with_each ns kept) (take_all c.loop-new.new-index c.args.news.now c.loop-new-test.false))
    (c.loop-new.invariant kept tells)
