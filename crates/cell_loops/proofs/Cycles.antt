-- The loop from an edge comes back to it, and is the loop from each of its edges.
use Rattle.std.proofs.Common.{◌≡◌, ℕ, zero, suc, ◌+◌, ◌-◌, ◌<◌, ◌≤◌, Bool, true, false, ◌||◌, List, [], ◌∷◌, length, arith, refl, sym, ap, ◌∙◌, ◌⊎◌, inl, inr, subst}
use Rattle.std.proofs.lemmas.Bool.{or_left, or_right}
use Rattle.cell_loops.specs.declared.corners.Edge.{Edge}
use Rattle.cell_loops.specs.Plane.{Plane}
use Rattle.cell_loops.specs.Boundary.{bounds, same, next_of, run_of, until, step_count, loop_from}
use Rattle.cell_loops.specs.inner.Steps.{IsOn, is_listed}
use Rattle.cell_loops.proofs.Edges.{bounds-on, same_refl}
use Rattle.cell_loops.proofs.Runs.{after, after-next, after-add, bounds-after, length-run, listed-after, StandsAt, stands-listed, bounds-listed, Apart, apart-run, Returns, returns-at}
use Rattle.cell_loops.proofs.Places.{few-apart}

-- the loop from an edge: the edge and so many edges after it, none twice, and then the edge again
pub record Cycle (s : Plane) (e : Edge) : Type 0 where
  pub more : ℕ
  pub edges : loop_from s e ≡ run_of (suc more) s e
  pub apart : Apart (run_of (suc more) s e)
  pub back : after (suc more) s e ≡ e

pub cycle-from : (s : Plane) (e : Edge) → bounds s e ≡ true → Cycle s e
unfolding loop_from
cycle-from s e h =
    let returns = returns-at (step_count s) s e (next_of s e) in
    let apart : Apart (run_of (suc returns.count) s e) = apart-run returns.count s e h returns.fresh in
    record {
      more = returns.count;
      edges = ap (λ es. e ∷ es) returns.edges;
      apart = apart;
      back = elim returns.ending [
        | inl back ↦ back
        | inr all ↦ (let few = few-apart s (run_of (suc returns.count) s e) (λ f listed. bounds-on s f (bounds-listed (suc returns.count) s e f h listed)) apart in
            let long = length-run (suc returns.count) s e in
            absurd (omega (arith, few, long, all)))
      ];
    }

-- ---- what a loop lists

abbrev pub in_loop : Plane → Edge → Edge → Bool
in_loop s e f = is_listed f (loop_from s e)

pub loop-self : (s : Plane) (e : Edge) → in_loop s e e ≡ true
unfolding loop_from
loop-self s e = or_left _ _ (same_refl e)

-- an edge of a loop, so many edges after its first
pub loop-stands : (s : Plane) (e f : Edge) (c : Cycle s e) → in_loop s e f ≡ true → StandsAt s (suc c.more) e f
loop-stands s e f c h = stands-listed (suc c.more) s e f (ap (is_listed f) (sym c.edges) ∙ h)

pub loop-listed : (s : Plane) (e : Edge) (c : Cycle s e) (k : ℕ) → k < suc c.more → in_loop s e (after k s e) ≡ true
loop-listed s e c k h = ap (is_listed (after k s e)) c.edges ∙ listed-after k (suc c.more) s e h

pub bounds-loop : (s : Plane) (e f : Edge) → bounds s e ≡ true → in_loop s e f ≡ true → bounds s f ≡ true
bounds-loop s e f h listed =
    let c = cycle-from s e h in
    bounds-listed (suc c.more) s e f h (ap (is_listed f) (sym c.edges) ∙ listed)

in_loop_at : (s : Plane) (e f g : Edge) → f ≡ g → in_loop s e f ≡ true → in_loop s e g ≡ true
in_loop_at s e f g is h = ap (in_loop s e) (sym is) ∙ h

-- so is the edge after it
pub loop-next : (s : Plane) (e f : Edge) → bounds s e ≡ true → in_loop s e f ≡ true → in_loop s e (next_of s f) ≡ true
loop-next s e f h listed =
    let c = cycle-from s e h in
    let at = loop-stands s e f c listed in
    let next : after (suc at.place) s e ≡ next_of s f = after-next at.place s e ∙ ap (next_of s) at.is in
    elim (near at.place c.more at.below) [
      | inl before ↦ in_loop_at s e _ _ next (loop-listed s e c (suc at.place) before)
      | inr last ↦ in_loop_at s e _ _ (sym c.back ∙ ap (λ n. after (suc n) s e) (sym last) ∙ next) (loop-self s e)
    ]
  where
    near : (k n : ℕ) → k < suc n → (suc k < suc n) ⊎ (k ≡ n)
    near k n h = grind arith

pub loop-after : (k : ℕ) (s : Plane) (e f : Edge) → bounds s e ≡ true → in_loop s e f ≡ true → in_loop s e (after k s f) ≡ true
loop-after zero s e f h listed = listed
loop-after (suc k) s e f h listed = loop-after k s e (next_of s f) h (loop-next s e f h listed)

-- an edge is in the loop of each edge of its own, and what that loop lists is in its own
pub loop-sym : (s : Plane) (e f : Edge) → bounds s e ≡ true → in_loop s e f ≡ true → in_loop s f e ≡ true
loop-sym s e f h listed =
    let c = cycle-from s e h in
    let at = loop-stands s e f c listed in
    let rest = suc c.more - at.place in
    let whole : at.place + rest ≡ suc c.more = omega (arith, at.below) in
    let on : after rest s f ≡ e =
    ap (after rest s) (sym at.is) ∙ sym (after-add at.place rest s e) ∙ ap (λ n. after n s e) whole ∙ c.back in
    in_loop_at s f _ _ on (loop-after rest s f f (bounds-loop s e f h listed) (loop-self s f))

pub loop-trans : (s : Plane) (e f g : Edge) → bounds s e ≡ true → in_loop s e f ≡ true → in_loop s f g ≡ true → in_loop s e g ≡ true
loop-trans s e f g h first second =
    let c = cycle-from s f (bounds-loop s e f h first) in
    let at = loop-stands s f g c second in
    in_loop_at s e _ _ at.is (loop-after at.place s e f h first)
