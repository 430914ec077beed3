-- Strings in a buffer.
use Rattle.std.proofs.Common.{◌≡◌, ℕ, ◌+◌, ◌≤◌, arith, ap, sym, refl, ◌∙◌, List, [], ◌∷◌, length, drop, take}
use Rattle.std.specs.Prelude.{slice_index_or, slice_set}
use Rattle.std.proofs.lemmas.List.{drop_more, drop-set, take-take, take-set-le, get_or-take, length-drop, length-set}
use Rattle.scene_geom.specs.declared.plan.Pt.{Pt}
use Rattle.edge_chain.specs.declared.hand.Hand.{Hand}
use Rattle.edge_chain.specs.inner.Winding.{slackened, wound}

-- a string of one point or none stays as it is
pub slackened-short : (hand : Hand) (p : Pt) (string : List Pt) → length string ≤ 1 → slackened hand p string ≡ string
slackened-short hand p [] h = refl
slackened-short hand p (a ∷ []) h = refl
slackened-short hand p (a ∷ b ∷ rest) h = absurd (omega arith)

pub slackened-end : (hand : Hand) (p : Pt) (points : List Pt) (at : ℕ) → length points ≤ at + 1 → slackened hand p (drop at points) ≡ drop at points
slackened-end hand p points at h = slackened-short hand p (drop at points) (omega (arith, length-drop at points))

-- one point more is wound round
pub record WoundTo (hand : Hand) (start points : List Pt) (i begin : ℕ) : Type 0 where
  pub value : drop begin points ≡ wound hand (drop i start)
  pub before : take i points ≡ take i start
  pub after : i ≤ begin
  pub within : begin ≤ length points
  pub length : length points ≡ length start

pub wound-more : (hand : Hand) (start points : List Pt) (i k begin from at : ℕ) (p : Pt) → WoundTo hand start points i begin → k + 1 ≡ i → at + 1 ≡ from → begin ≤ from → from ≤ length points
    → p ≡ slice_index_or points k p → drop from points ≡ slackened hand p (drop begin points) → WoundTo hand start (slice_set points at p) k at
wound-more hand start points i k begin from at p wound_to next last after within is tight = record {
  value =
      drop-set points at p (omega arith)
      ∙ ap (λ n. p ∷ drop n points) last
      ∙ ap (λ string. p ∷ string) (tight ∙ ap (slackened hand p) wound_to.value)
      ∙ ap (wound hand) (sym here);
  before = take-set-le k points at p (omega arith) ∙ before;
  after = omega arith;
  within = omega (arith, length-set points at p);
  length = length-set points at p ∙ wound_to.length;
}
  where
    before : take k points ≡ take k start
    before = sym (take-take k i points (omega arith)) ∙ ap (take k) wound_to.before ∙ take-take k i start (omega arith)

    same : slice_index_or start k p ≡ p
    same =
        sym (get_or-take i start k p (omega arith)) ∙ ap (λ (xs : List Pt). slice_index_or xs k p) (sym wound_to.before)
        ∙ get_or-take i points k p (omega arith) ∙ sym is

    here : drop k start ≡ p ∷ drop i start
    here =
        drop_more start k p (omega (arith, wound_to.length)) ∙ ap (λ q. q ∷ drop (k + 1) start) same ∙ ap (λ n. p ∷ drop n start) next
