use Rattle.std.proofs.Common.{◌≡◌, ◌∙◌, length, refl, ap, sym, subst}
use Rattle.std.specs.Prelude.{IsSomeAnd}
use Rattle.std.proofs.lemmas.Option.{slice_get_read}
use Rattle.path_calc.specs.Bundles.{Bundle}
use Rattle.map_board.specs.inner.Marks.{TouchesFrom}
use Rattle.map_board.proofs.Naming.{same-name}
use Rattle.map_board.proofs.edits.renewing.place_touched.Goals as goal

pub returns-then-eq : goal.returns-then-eq
returns-then-eq c =
    let logged = c.args.change.now.logged in
    let bundle = c.in_ok-bundle.bundle.now in
    let source : c.items.result.now ≡ bundle.source = c.items.ensures.value ∙ ap (λ (b : Bundle). b.source) c.bundle.view_is in
    let same : c.items.result.now ≡ c.items-2.result.now = same-name c.items.result.now c.items-2.result.now (sym c.eq.ensures ∙ c.if-eq.true) in
    let name : c.in_ok-name.name.now ≡ bundle.source = sym c.items-2.ensures.value ∙ (sym same ∙ source) in
    let bundles = c.args.bundles.now in
    let found = c.in_ok-bundle.ensures.lookup in
    subst (λ o. IsSomeAnd o (λ (b : Bundle). TouchesFrom b.source logged.edit logged.old))
    (sym (slice_get_read bundles (length bundles) c.in_ok-place.place bundle refl found.3.0 found.1))
    (subst (λ n. TouchesFrom n logged.edit logged.old) name c.in_ok-name.ensures)
