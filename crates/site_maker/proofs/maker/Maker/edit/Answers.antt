use Rattle.site_maker.specs.Site.{edit}
use Rattle.site_maker.proofs.maker.Maker.edit.Goals as goal

pub returns : goal.returns
unfolding edit
returns c =
    let added = rw (c.draw-number.ensures.value, c.draw-number.ensures.state, c.count.ensures, c.at-kind.ensures, c.draw.ensures.value, c.draw.ensures.state) at c.in_ok-part.ensures in
    record { text = added.text; state = added.state }
