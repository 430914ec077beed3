use Rattle.std.proofs.Common.{◌≡◌, ◌∙◌, ap, sym, refl, true, List, Some, None}
use Rattle.std.specs.Prelude.{Option}
use Rattle.scene_parts.specs.Parts.{Receiver}
use Rattle.scene_parts.specs.declared.parts.Part.{Part}
use Rattle.scene_parts.specs.declared.parts.Part.TheVariants as parts
use Rattle.scene_book.specs.Lists.{place_of}
use Rattle.scene_book.specs.declared.edits.Edit.{Edit}
use Rattle.scene_book.specs.declared.edits.Edit.TheVariants as edits
use Rattle.map_board.specs.inner.Changes.{put_place, is_receiver_if_any}
use Rattle.map_board.proofs.edits.renewing.place_alone.Goals as goal

as-placed : (new : Receiver) (old : Option Part) (rs : List Receiver) → is_receiver_if_any old ≡ true
    → place_of (λ (r : Receiver). r.name) new.name rs ≡ put_place (edits.Put (parts.Receiver new)) old rs
as-placed new None rs plain = refl
as-placed new (Some (parts.Receiver r)) rs plain = refl
as-placed new old rs plain = absurd (cc plain)

pub returns-in-Receiver : goal.returns-in-Receiver
returns-in-Receiver c =
    let rs = c.args.scene.now.receivers in
    let old = c.args.logged.now.old in
    let new = c.in-Receiver.receiver in
    let edit : c.args.logged.now.edit ≡ edits.Put (parts.Receiver new) = c.in-Put.is ∙ ap edits.Put c.in-Receiver.is in
    c.receiver_place.ensures
    ∙ (ap (λ n. place_of (λ (r : Receiver). r.name) n rs) (c.items.ensures.value ∙ ap (λ (r : Receiver). r.name) c.receiver.view_is)
    ∙ (as-placed new old rs (sym c.is_receiver_if_any.ensures ∙ c.if-is_receiver_if_any.true) ∙ ap (λ (e : Edit). put_place e old rs) (sym edit)))
