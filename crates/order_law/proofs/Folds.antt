-- What is added up of things of a list, whatever their order.
use Rattle.std.proofs.Common.{◌≡◌, ℕ, suc, List, length, refl, ap, subst, ◌∙◌}
use Rattle.std.specs.Prelude.{fold}
use Rattle.scene_book.specs.Orders.{Shuffled, same, under, exchange, after}
use Rattle.order_law.proofs.Shuffles.{Each, each-shuffled, length-shuffled}

-- Things that fit can change places where there is room for them. `Room n total` says that so many more can be added
module _ {A B : Type 0} (op : B → A → B) (Room : ℕ → B → Type 0) (Fits : A → Type 0)
    (step : (n : ℕ) (total : B) (x : A) → Room (suc n) total → Fits x → Room n (op total x))
    (exchanged : (n : ℕ) (total : B) (x y : A) → Room (suc (suc n)) total → Fits x → Fits y → op (op total x) y ≡ op (op total y) x) where
  pub fold-shuffled : (total : B) {xs ys : List A} → Shuffled xs ys → Room (length xs) total → Each Fits xs → fold op total xs ≡ fold op total ys
  fold-shuffled total (same xs) room fit = refl
  fold-shuffled total (under x {xs = xs} h) room fit = fold-shuffled (op total x) h (step (length xs) total x room fit.0) fit.1
  fold-shuffled total (exchange x y xs) room fit = ap (λ t. fold op t xs) (exchanged (length xs) total x y room fit.0 fit.1.0)
  fold-shuffled total (after h k) room fit =
      fold-shuffled total h room fit ∙ fold-shuffled total k (subst (λ (n : ℕ). Room n total) (length-shuffled h) room) (each-shuffled Fits h fit)
