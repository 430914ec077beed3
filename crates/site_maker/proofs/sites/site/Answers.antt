use Rattle.std.proofs.Common.{◌≡◌, ◌∙◌, ap, refl}
use Rattle.site_maker.specs.Site.{lines_of_site, site_text}
use Rattle.site_maker.proofs.DrawnLemmas.{adds_then}
use Rattle.site_maker.proofs.Lengths.{site_short}
use Rattle.site_maker.proofs.sites.site.Goals as goal

pub returns : goal.returns
unfolding lines_of_site site_text
returns c =
    let parts = adds_then _ _ _ _ _ (adds_then _ _ _ _ _ (adds_then _ _ _ _ _ c.in_ok-parts.ensures c.in_ok-parts-2.ensures) c.in_ok-parts-3.ensures) c.in_ok-parts-4.ensures in
    let settled = adds_then _ _ _ _ _ (adds_then _ _ _ _ _ parts c.in_ok-line.ensures) c.in_ok-line-2.ensures in
    let all = adds_then _ _ _ _ _ (adds_then _ _ _ _ _ settled c.in_ok-edits.ensures) c.in_ok-line-3.ensures in
    let whole : c.into_bytes.result.items ≡ site_text c.args.number = ap (λ v. v.items) c.into_bytes.ensures.value ∙ all.text ∙ rw (c.new-maker.ensures.text, c.new-maker.ensures.state) refl in
    record { text = whole; short = rw whole (site_short c.args.number) }
