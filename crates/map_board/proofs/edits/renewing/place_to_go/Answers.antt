use Rattle.std.proofs.Common.{◌∙◌, ap, sym}
use Rattle.scene_parts.specs.Parts.{Receiver}
use Rattle.scene_book.specs.Lists.{place_of}
use Rattle.scene_book.specs.declared.edits.Edit.{Edit}
use Rattle.map_board.specs.inner.Changes.{named_place}
use Rattle.map_board.proofs.edits.renewing.place_to_go.Goals as goal

pub returns-in-Remove : goal.returns-in-Remove
returns-in-Remove c =
    let rs = c.args.scene.now.receivers in
    c.receiver_place.ensures
    ∙ (ap (λ name. place_of (λ (r : Receiver). r.name) name rs) c.items.ensures.value
    ∙ ap (λ (e : Edit). named_place e rs) (sym c.in-Remove.is))
