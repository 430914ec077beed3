use Rattle.std.proofs.Common.{ap, length, subst, sym, ◌∙◌, arith}
use Rattle.path_cache.specs.declared.renewing.Way.{Way}
use Rattle.path_cache.specs.Renewals.{Leads, Gathers, Replaces}
use Rattle.path_cache.proofs.Ascending.{count-from}
use Rattle.path_cache.proofs.Placing.{length-each}
use Rattle.path_cache.proofs.renewing.Renewed.len.Goals as goal

pub returns-in-Anew : goal.returns-in-Anew
returns-in-Anew c kept bundles gives =
    let origins = c.in-Anew.origins.items in
    let way : Gathers origins c.in-Anew.field-1 kept bundles = subst (λ (way : Way). Leads way kept bundles) c.in-Anew.is gives.way in
    omega (arith, c.len.ensures, c.in-Anew.origins.ok.0, count-from kept 0 origins way.ascend, ap length way.given)

pub returns-in-InPlace : goal.returns-in-InPlace
returns-in-InPlace c kept bundles gives =
    let news = c.in-InPlace.field-0.items in
    let way : Replaces news c.in-InPlace.count kept bundles = subst (λ (way : Way). Leads way kept bundles) c.in-InPlace.is gives.way in
    way.counted ∙ sym (length-each news kept) ∙ ap length way.given
