use Rattle.std.proofs.Common.{◌≡◌, ◌++◌, ℕ, append-nil, sym, ap, ◌∙◌, refl, arith}
use Rattle.std.specs.Prelude.{Bool, true, false, Option, Some, ℤ, ◌==◌}
use Rattle.std.specs.Option.{option_to_list}
use Rattle.std.specs.Bool.{then_some}
use Rattle.part_grid.specs.declared.owned.Owned.{Owned}
use Rattle.image_source.specs.Facing.{FacingSide, facing_in}
use Rattle.image_source.specs.inner.Facing.{is_in_front}
use Rattle.scene_parts.specs.Parts.{Obstacle}
use Rattle.image_source.proofs.Listing.{nothing-faces, facing-is, in-front-long, side-listed}
use Rattle.image_source.proofs.Even.{still-short}
use Rattle.image_source.proofs.facing.add_facing.Goals.{then-is_in_front+in_ok-push, else-is_in_front}
use Rattle.image_source.proofs.facing.add_facing.Goals as goal

pub returns-then-obstacle-eq0 : goal.returns-then-obstacle-eq0
returns-then-obstacle-eq0 c =
    nothing-faces c.args.at c.args.number c.args.obstacle.now c.args.found.now.items
    (sym (ap (λ (o : Obstacle). o.rho) c.obstacle.view_is) ∙ c.if-obstacle-eq0.true)

not-zero : (n : ℕ) → (n ≡ 0 → ⊥) → (n == 0) ≡ false
not-zero n h = by (n == 0) refl where
  zero : (n == 0) ≡ true → n ≡ 0
  zero e = grind arith

  by : (test : Bool) → (n == 0) ≡ test → test ≡ false
  by true e = absurd (h (zero e))
  by false e = refl

front-same : (off off' : ℤ) (left left' right right' : Bool) → off ≡ off' → left ≡ left' → right ≡ right' → is_in_front off left right ≡ is_in_front off' left' right'
front-same off off' left left' right right' e f g = rw (e, f, g) refl

pub of-requires-clause-long : goal.of-requires-clause-long
of-requires-clause-long c =
    let hands = c.outside-hands.result in
    in-front-long c.side_of-side.result c.args.at hands.left hands.right
    (ap (λ (z : ℤ). is_in_front z hands.left hands.right) (sym (still-short c.off_line-off.result c.off_line-off.ensures.within ∙ c.off_line-off.ensures.value)) ∙ sym c.is_in_front.ensures ∙ c.if-is_in_front.true)

pub loop-index-preserved : goal.loop-index-preserved
loop-index-preserved c =
    let o = c.args.obstacle.now in
    let at = c.args.at in
    let found = c.loop-index.found.items in
    let side = c.side_of-side.result in
    let owned : Owned = record { obstacle = c.args.number; index = c.loop-index.index; side = side } in
    let made : FacingSide = record { owned = owned; at = at } in
    let some : (o.rho == 0) ≡ false = not-zero o.rho (λ e. c.if-obstacle-eq0.false (ap (λ (o : Obstacle). o.rho) c.obstacle.view_is ∙ e)) in
    let test = c.is_in_front.ensures ∙ front-same _ _ _ _ _ _ (still-short c.off_line-off.result c.off_line-off.ensures.within ∙ c.off_line-off.ensures.value) c.outside-hands.ensures.left c.outside-hands.ensures.right in
    let one : then_some c.is_in_front.result made ≡ facing_in at o owned = ap (λ (b : Bool). then_some b made) test ∙ sym (facing-is at o owned some) in
    let added : c.if-is_in_front.found.items ≡ found ++ option_to_list (facing_in at o owned) =
    elim c.if-is_in_front.branch [
      | then-is_in_front+in_ok-push w ↦
          rw w.found-is
          (w.in_ok-push.ensures.items
          ∙ ap (λ (f : FacingSide). found ++ option_to_list (Some f)) w.of.ensures
          ∙ ap (λ (b : Bool). found ++ option_to_list (then_some b made)) (sym w.if-is_in_front.true)
          ∙ ap (λ (f : Option FacingSide). found ++ option_to_list f) one)
      | else-is_in_front w ↦
          rw w.found-is
          (sym (append-nil found)
          ∙ ap (λ (b : Bool). found ++ option_to_list (then_some b made)) (sym w.if-is_in_front.false)
          ∙ ap (λ (f : Option FacingSide). found ++ option_to_list f) one)
    ] in
    side-listed at o c.args.number c.loop-index.index side found c.if-is_in_front.found.items _ c.side_of-side.ensures added c.loop-index.invariant
