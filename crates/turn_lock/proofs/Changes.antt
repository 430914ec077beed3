-- Steps that leave the history as it is, and change one view.
use Rattle.std.proofs.Common.{◌≡◌, ◌≢◌, ℕ, zero, suc, ◌+◌, ◌≤◌, ◌<◌, List, [], ◌∷◌, length, set, refl, sym, ap, ◌∙◌, subst, arith, eq-eqb, ne_eqb}
use Rattle.std.specs.Prelude.{sum_by, Option}
use mathlib.Core.Logic.{dite}
use native.Mathlib.Decide.{ℕ_discrete}
use mathlib.Core.Option.{Option as Maybe, none, some, some-injective, some-ne-none}
use lib.ListN.{get_elem?}
use Rattle.atomic_table.specs.Table.{State, Me, step, keeps, Allows}
use Rattle.atomic_table.proofs.Lists.{set_again}
use Rattle.turn_lock.specs.declared.entry.Entry.{Entry}
use Rattle.turn_lock.specs.declared.view.View.{View}
use Rattle.turn_lock.specs.History.{StepRelation, Permission}
use Rattle.turn_lock.specs.inner.Rule.{IsOneWithin, one_if_same, tickets, uses, machines, parts_of, Fits, FitsSlot, IsKept}
use Rattle.turn_lock.specs.inner.Steps.{Looks}
use Rattle.turn_lock.proofs.Counts.{sum_same, two_below, each_set}
use Rattle.turn_lock.proofs.Facts.{knows}

pub same_is_one : (m n : ℕ) → m ≡ n → one_if_same m n ≡ 1
same_is_one m n e = rw (eq-eqb m n e)

pub other_is_none : (m n : ℕ) → m ≢ n → one_if_same m n ≡ 0
other_is_none m n e = rw (ne_eqb m n e)

-- one more at the high end
pub one_more : (low high x n n' : ℕ) → low ≤ high → IsOneWithin low high x n → n' ≡ n + one_if_same high x → IsOneWithin low (high + 1) x n'
one_more low high x n n' order is sum = dite (ℕ_discrete high x)
    (λ here. let one = same_is_one high x here in let old = is.2 (omega arith) in
    ((λ l h. omega arith), (λ l. absurd (omega arith)), (λ h. absurd (omega arith))))
    (λ other. let none_here = other_is_none high x other in
    ((λ l h. let old = is.0 l (omega arith) in omega arith), (λ l. let old = is.1 l in omega arith), (λ h. let old = is.2 (omega arith) in omega arith)))

-- one less at the low end
pub one_less : (low high x n n' : ℕ) → low < high → IsOneWithin low high x n → n' + one_if_same low x ≡ n → IsOneWithin (low + 1) high x n'
one_less low high x n n' order is sum = dite (ℕ_discrete low x)
    (λ here. let one = same_is_one low x here in let old = is.0 (omega arith) (omega arith) in
    ((λ l h. absurd (omega arith)), (λ l. omega arith), (λ h. absurd (omega arith))))
    (λ other. let none_here = other_is_none low x other in
    ((λ l h. let old = is.0 (omega arith) h in omega arith), (λ l. let old = is.1 (omega arith) in omega arith), (λ h. let old = is.2 h in omega arith)))

pub set_there : {A : Type 0} (l : List A) (i : ℕ) (v w : A) → get_elem? l i ≡ some v → get_elem? (set l i w) i ≡ some w
set_there [] i v w e = absurd (some-ne-none v (sym e))
set_there (x ∷ xs) zero v w e = refl
set_there (x ∷ xs) (suc i) v w e = set_there xs i v w e

module _ {C R : Type 0} where
  -- a later bound on all numbers
  pub fits_later : (history : List (Entry C R)) (next later : ℕ) (v : View C R) → next ≤ later → Fits history next v → Fits history later v
  fits_later history next later v more f = record {
    seen = f.seen;
    done = f.done;
    done_seen = f.done_seen;
    unnamed = f.unnamed;
    in_turn = f.in_turn;
    bound = (let b = f.bound in omega arith);
    numbers_below = f.numbers_below;
    entries_below = f.entries_below;
    beside = f.beside;
    spent = f.spent;
  }

  -- only one view has the ticket that is served
  pub served_once : (history : List (Entry C R)) (drawn : ℕ) (views : List (View C R)) (seat other : ℕ) (v w : View C R)
      → ((ticket : ℕ) → IsOneWithin (length history) drawn ticket (sum_by (tickets ticket) views))
      → get_elem? views seat ≡ some v → get_elem? views other ≡ some w → tickets (length history) v ≡ 1 → tickets (length history) w ≡ 1 → seat ≡ other
  served_once history drawn views seat other v w out at there mine theirs = dite (ℕ_discrete seat other) (λ same. same)
      (λ apart. absurd (let two = two_below (tickets (length history)) views seat other v w apart at there in
      let once = out (length history) in let low = once.0 in let high = once.2 in
      dite (native.Mathlib.Decide.dec_lt (length history) drawn)
      (λ lt. let one = low (omega arith) lt in omega arith)
      (λ ge. let none_out = high (omega arith) in omega arith)))

module _ {M S C R : Type 0} (state : M → S) (start : S) (steps : StepRelation S C R) (may : Permission C R) where
  abbrev Kept : State (Option M) (View C R) → Type 0
  Kept = IsKept state start steps may

  -- nothing changed
  pub unchanged : (s : State (Option M) (View C R)) (r : Kept s) (id : ℕ) (v : View C R) → get_elem? s.views id ≡ some v
      → Kept record { words = r.drawn ∷ length r.history ∷ r.next ∷ []; homes = s.homes; views = set s.views id v }
  unchanged s r id v at =
      subst (λ (p : List ℕ × List (View C R)). Kept record { words = p.0; homes = s.homes; views = p.1 }) (λ i. (r.words i, sym (set_again s.views id v at) i)) r

  -- one view changed, and the history did not
  pub changed : (s : State (Option M) (View C R)) (r : Kept s) (id : ℕ) (v w : View C R) (homes : List (Maybe (Option M))) (drawn next : ℕ)
      → get_elem? s.views id ≡ some v
      → (v.seen ≡ r.history → w.seen ≡ r.history) → w.parts ≡ v.parts → length r.history ≤ drawn → r.next ≤ next → Fits r.history next w
      → ((ticket : ℕ) → IsOneWithin (length r.history) drawn ticket (sum_by (tickets ticket) (set s.views id w)))
      → ((number : ℕ) → IsOneWithin 0 next number (sum_by (uses number) (set s.views id w)))
      → FitsSlot state start steps may homes r.history (sum_by machines (set s.views id w))
      → Kept record { words = drawn ∷ length r.history ∷ next ∷ []; homes = homes; views = set s.views id w }
  changed s r id v w homes drawn next at seen parts order more fits tickets_out numbers_out slot = record {
    history = r.history;
    drawn = drawn;
    next = next;
    words = refl;
    served = order;
    legal = r.legal;
    known = dite (ℕ_discrete r.known.0 id)
        (λ same. (id, w, set_there s.views id v w at, seen (ap (λ (u : View C R). u.seen) (some-injective _ _ (sym at ∙ (ap (get_elem? s.views) (sym same) ∙ r.known.2))) ∙ r.known.3)))
        (λ other. (r.known.0, r.known.1, Rattle.atomic_table.proofs.Lists.set_else s.views id r.known.0 w other ∙ r.known.2, r.known.3));
    tickets_out = tickets_out;
    numbers_out = numbers_out;
    parts_out = sum_same parts_of s.views id v w at parts ∙ r.parts_out;
    slot = slot;
    each_fits = each_set (Fits r.history next) s.views id w fits (λ j u _ there. fits_later r.history r.next next u more (r.each_fits j u there));
  }

  -- a look changes nothing
  pub looks : (slots id : ℕ) (me : Me (Option M) (View C R)) → Allows Kept slots id me 0 (λ n. n) (Looks state start steps may (step slots 0 0 0 none) me)
  looks slots id me s r _ at _ = rw r.words (me.0, keeps, tt, unchanged s r id me.0 at, (refl, knows state start steps may s r id me.0 at))
