use Rattle.std.proofs.Common.{◌≡◌, ◌∙◌, ◌+◌, ◌-◌, ap, arith, refl}
use Rattle.scene_parts.specs.Parts.{Receiver}
use Rattle.level_contours.proofs.Found.{found-step}
use Rattle.level_contours.proofs.lookup.filed.Goals as goal

pub loop-place-preserved : goal.loop-place-preserved
loop-place-preserved c = λ name.
    found-step (λ (r : Receiver). r.name) (λ (r : Receiver). tt {0}) c.args.receivers.now (c.loop-place.place - 1) c.loop-place.place c.index-receivers-place.result
    c.loop-place.names.entries c.insert.new.self.entries c.in_ok-key.key tt name (omega arith) (omega arith) c.index-receivers-place.is
    c.in_ok-_later.ensures.entries (c.in_ok-key.ensures ∙ c.items.ensures.value ∙ ap (λ (r : Receiver). r.name) c.receiver.view_is) refl (c.loop-place.invariant name)
