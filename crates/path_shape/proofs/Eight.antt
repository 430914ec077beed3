-- What holds of each of eight.
use Rattle.std.proofs.Common.{[], ◌∷◌}
use Rattle.std.specs.List.{All}
use Rattle.std.proofs.lemmas.List.Elements.{All-cons, All-nil}

pub all_eight : {X : Type 0} (P : X → Type 0) (a b c d e f g h : X) → P a → P b → P c → P d → P e → P f → P g → P h
    → All P (a ∷ b ∷ c ∷ d ∷ e ∷ f ∷ g ∷ h ∷ [])
all_eight P a b c d e f g h pa pb pc pd pe pf pg ph =
    All-cons P a (b ∷ c ∷ d ∷ e ∷ f ∷ g ∷ h ∷ []) pa
    (All-cons P b (c ∷ d ∷ e ∷ f ∷ g ∷ h ∷ []) pb
    (All-cons P c (d ∷ e ∷ f ∷ g ∷ h ∷ []) pc
    (All-cons P d (e ∷ f ∷ g ∷ h ∷ []) pd
    (All-cons P e (f ∷ g ∷ h ∷ []) pe
    (All-cons P f (g ∷ h ∷ []) pf
    (All-cons P g (h ∷ []) pg
    (All-cons P h [] ph (All-nil P))))))))
