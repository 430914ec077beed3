-- The least edge of a loop, and the edges with which loops begin.
use Rattle.std.proofs.Common.{◌≡◌, Bool, true, false, not, ◌||◌, List, [], ◌∷◌, filter, refl, sym, ap, ◌∙◌, ◌⊎◌, inl, inr}
use Rattle.std.specs.List.{list_all}
use Rattle.std.proofs.lemmas.Bool.{false≢true, or_cases, or_left, or_right, not-true, not_from_false}
use Rattle.cell_loops.specs.declared.corners.Edge.{Edge}
use Rattle.cell_loops.specs.Plane.{Plane}
use Rattle.cell_loops.specs.Boundary.{bounds, same, precedes, next_of, until, run_of, step_count, loop_from, boundary_of, begins}
use Rattle.cell_loops.specs.inner.Steps.{is_listed}
use Rattle.cell_loops.proofs.Edges.{same_is, same_refl}
use Rattle.cell_loops.proofs.Runs.{Apart}
use Rattle.cell_loops.proofs.Cycles.{Cycle, cycle-from, in_loop, bounds-loop, loop-sym, loop-trans}
use Rattle.cell_loops.proofs.Order.{precedes-not_itself, precedes-trans, precedes-total, Ascends, ascends-boundary, ascends-filter, boundary-lists, bounds-boundary, listed-filter, passes-filter, kept-filter}
use Rattle.cell_loops.proofs.Scans.{all_from, all_at}

-- the least of some edges
pub record IsLeast (es : List Edge) : Type 0 where
  pub edge : Edge
  pub listed : is_listed edge es ≡ true
  pub least : (f : Edge) → is_listed f es ≡ true → precedes f edge ≡ false

least_of : (e : Edge) (es : List Edge) → IsLeast (e ∷ es)
least_of e [] = record {
  edge = e;
  listed = or_left (same e e) (is_listed e []) (same_refl e);
  least = λ f listed. elim (or_cases (same f e) (is_listed f []) listed) [
    | inl here ↦ ap (λ x. precedes x e) (same_is f e here) ∙ precedes-not_itself e
    | inr none ↦ absurd (false≢true none)
  ];
}
least_of e (g ∷ es) = by_test (least_of g es) where
  by_test : IsLeast (g ∷ es) → IsLeast (e ∷ g ∷ es)
  by_test r = choose (precedes e r.edge) refl where
    choose : (t : Bool) → precedes e r.edge ≡ t → IsLeast (e ∷ g ∷ es)
    choose true is = record {
      edge = e;
      listed = or_left (same e e) (is_listed e (g ∷ es)) (same_refl e);
      least = λ f listed. elim (or_cases (same f e) (is_listed f (g ∷ es)) listed) [
        | inl here ↦ ap (λ x. precedes x e) (same_is f e here) ∙ precedes-not_itself e
        | inr later ↦ not_before f later (precedes f e) refl
      ];
    } where
      not_before : (f : Edge) → is_listed f (g ∷ es) ≡ true → (t : Bool) → precedes f e ≡ t → precedes f e ≡ false
      not_before f later false not_so = not_so
      not_before f later true so = absurd (false≢true (sym (r.least f later) ∙ precedes-trans f e r.edge so is))
    choose false is = record {
      edge = r.edge;
      listed = or_right (same r.edge e) (is_listed r.edge (g ∷ es)) r.listed;
      least = λ f listed. elim (or_cases (same f e) (is_listed f (g ∷ es)) listed) [
        | inl here ↦ ap (λ x. precedes x r.edge) (same_is f e here) ∙ is
        | inr later ↦ r.least f later
      ];
    }

least-loop : (s : Plane) (e : Edge) → IsLeast (loop_from s e)
unfolding loop_from
least-loop s e = least_of e (until e (run_of (step_count s) s (next_of s e)))

-- ---- beginnings

-- the edges with which loops begin
abbrev pub beginnings : Plane → List Edge
beginnings s = filter (begins s) (boundary_of s)

pub ascends-beginnings : (s : Plane) → Ascends (beginnings s)
ascends-beginnings s = ascends-filter (begins s) (boundary_of s) (ascends-boundary s)

pub bounds-beginnings : (s : Plane) (b : Edge) → is_listed b (beginnings s) ≡ true → bounds s b ≡ true
bounds-beginnings s b h = bounds-boundary s b (listed-filter (begins s) b (boundary_of s) h)

pub begins-beginnings : (s : Plane) (b : Edge) → is_listed b (beginnings s) ≡ true → begins s b ≡ true
begins-beginnings s b h = passes-filter (begins s) b (boundary_of s) h

-- no edge of a loop precedes that with which it begins
pub begins-least : (s : Plane) (b f : Edge) → begins s b ≡ true → in_loop s b f ≡ true → precedes f b ≡ false
unfolding begins
begins-least s b f h listed = not-true (precedes f b) (all_at (λ g. not (precedes g b)) (loop_from s b) f h listed)

-- the beginning of an edge's loop
pub record Beginning (s : Plane) (e : Edge) : Type 0 where
  pub edge : Edge
  pub listed : is_listed edge (beginnings s) ≡ true
  pub on : in_loop s edge e ≡ true

pub beginning-of : (s : Plane) (e : Edge) → bounds s e ≡ true → Beginning s e
unfolding begins
beginning-of s e h =
    let m = least-loop s e in
    let bounding = bounds-loop s e m.edge h m.listed in
    let begun : begins s m.edge ≡ true =
    all_from (λ f. not (precedes f m.edge)) (loop_from s m.edge) (λ f listed. not_from_false (precedes f m.edge) (m.least f (loop-trans s e m.edge f h m.listed listed))) in
    record {
      edge = m.edge;
      listed = kept-filter (begins s) m.edge (boundary_of s) begun (boundary-lists s m.edge bounding);
      on = loop-sym s e m.edge h m.listed;
    }

-- and there is no other
pub one-beginning : (s : Plane) (e : Edge) (m : Beginning s e) (b : Edge) → is_listed b (beginnings s) ≡ true → in_loop s b e ≡ true → same m.edge b ≡ true
one-beginning s e m b listed on =
    let bounds_m = bounds-beginnings s m.edge m.listed in
    let bounds_b = bounds-beginnings s b listed in
    let b_to_m = loop-trans s b e m.edge bounds_b on (loop-sym s m.edge e bounds_m m.on) in
    precedes-total m.edge b
    (begins-least s b m.edge (begins-beginnings s b listed) b_to_m)
    (begins-least s m.edge b (begins-beginnings s m.edge m.listed) (loop-sym s b m.edge bounds_b b_to_m))
