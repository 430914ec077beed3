-- Draw, and load served.
use Rattle.std.proofs.Common.{◌≡◌, ℕ, ◌+◌, ◌<◌, eqb, [], ◌∷◌, length, set, refl, sym, ap, ◌∙◌, subst, inl, ⊎_elim, arith, eq-eqb, ne_eqb}
use Rattle.std.specs.Prelude.{sum_by, All, Option, Some, None}
use Rattle.std.proofs.lemmas.List.Elements.{All-weaker}
use mathlib.Core.Logic.{dite}
use native.Mathlib.Decide.{ℕ_discrete}
use mathlib.Core.Option.{none, some, some-injective}
use lib.ListN.{get_elem?}
use prog.Atomic.{either}
use Rattle.atomic_table.specs.Table.{State, Me, step, keeps, takes, Allows}
use Rattle.turn_lock.specs.declared.entry.Entry.{Entry}
use Rattle.turn_lock.specs.declared.entry.Joined.{Joined}
use Rattle.turn_lock.specs.declared.view.View.{View}
use Rattle.turn_lock.specs.declared.view.Phase.{Phase}
use Rattle.turn_lock.specs.declared.view.Phase.TheVariants.{Free, Waiting, InTurn}
use Rattle.turn_lock.specs.History.{IsRun, StepRelation, Permission}
use Rattle.turn_lock.specs.inner.Rule.{IsOneWithin, tickets_in, machines_in, claims, tickets, uses, machines, FitsSlot, IsKept}
use Rattle.turn_lock.specs.inner.Steps.{in_phase, in_turn, Draws, Serves}
use Rattle.turn_lock.proofs.Histories.{begins_self, begins_nil}
use Rattle.turn_lock.proofs.Counts.{sum_set, sum_same, one_there}
use Rattle.turn_lock.proofs.Changes.{same_is_one, one_more, served_once, unchanged, changed}

module _ {M S C R : Type 0} (state : M → S) (start : S) (steps : StepRelation S C R) (may : Permission C R) where
  abbrev Kept : State (Option M) (View C R) → Type 0
  Kept = IsKept state start steps may

  -- the view with the next ticket
  drawn_kept : (s : State (Option M) (View C R)) (r : Kept s) (id n : ℕ) (v : View C R) → get_elem? s.views id ≡ some v → v.phase ≡ Free → (m : ℕ) → v.name ≡ Some m
      → Kept record { words = (r.drawn + 1) ∷ length r.history ∷ r.next ∷ []; homes = s.homes; views = set s.views id (in_phase (Waiting r.drawn) v) }
  drawn_kept s r id n v at free m name =
      let w = in_phase (Waiting r.drawn) v in
      let fits = r.each_fits id v at in
      let order = r.served in
      changed state start steps may s r id v w s.homes (r.drawn + 1) r.next at (λ e. e) refl (omega arith) (omega arith)
      record {
        seen = fits.seen;
        done = fits.done;
        done_seen = fits.done_seen;
        unnamed = λ nameless. absurd (let both : None ≡ Some m = sym nameless ∙ name in cc);
        in_turn = λ t waits. absurd cc;
        bound = fits.bound;
        numbers_below = fits.numbers_below;
        entries_below = fits.entries_below;
        beside = fits.beside;
        spent = fits.spent;
      }
      (λ t. let none_before : tickets t v ≡ 0 = ap (tickets_in t) free in
      let sum = sum_set (tickets t) s.views id v w at in
      one_more (length r.history) r.drawn t (sum_by (tickets t) s.views) (sum_by (tickets t) (set s.views id w)) order (r.tickets_out t) (omega arith))
      (λ x. subst (IsOneWithin 0 r.next x) (sym (sum_same (uses x) s.views id v w at refl)) (r.numbers_out x))
      (subst (FitsSlot state start steps may s.homes r.history) (sym (sum_same machines s.views id v w at (sym (ap machines_in free)))) r.slot)

  pub draws : (slots id : ℕ) (me : Me (Option M) (View C R)) (old m : ℕ) → me.0.phase ≡ Free → me.0.name ≡ Some m
      → Allows Kept slots id me 0 (λ n. either (eqb n old) (old + 1) n) (Draws (step slots 0 old (old + 1) none) me)
  draws slots id me old m free name s r _ at _ = rw r.words (dite (ℕ_discrete r.drawn old)
      (λ hit. (
        in_phase (Waiting r.drawn) me.0,
        keeps,
        tt,
        subst (λ (b : ℕ). Kept record { words = b ∷ length r.history ∷ r.next ∷ []; homes = s.homes; views = set s.views id (in_phase (Waiting r.drawn) me.0) })
            (sym (ap (λ b. either b (old + 1) r.drawn) (eq-eqb r.drawn old hit) ∙ ap (λ k. k + 1) (sym hit)))
            (drawn_kept s r id old me.0 at free m name),
        ((λ _. refl), (λ miss. absurd (miss hit))),
      ))
      (λ miss. (
        me.0,
        keeps,
        tt,
        subst (λ (b : ℕ). Kept record { words = b ∷ length r.history ∷ r.next ∷ []; homes = s.homes; views = set s.views id me.0 })
            (sym (ap (λ b. either b (old + 1) r.drawn) (ne_eqb r.drawn old miss)))
            (unchanged state start steps may s r id me.0 at),
        ((λ hit. absurd (miss hit)), (λ _. refl)),
      )))

  -- while a view waits with the ticket that is served, the slot is at home
  home_at : (s : State (Option M) (View C R)) (r : Kept s) (id : ℕ) (v : View C R) → get_elem? s.views id ≡ some v → v.phase ≡ Waiting (length r.history)
      → (machine : M) × (s.homes ≡ some (Some machine) ∷ []) × IsRun start steps may r.history (state machine) × (sum_by machines s.views ≡ 0)
  home_at s r id v at waits = ⊎_elim
      (λ (out : (s.homes ≡ none ∷ []) × (sum_by machines s.views ≡ 1)). absurd (
      let user = one_there machines s.views (let one = out.1 in omega arith) in
      clash user.0 user.1 user.2 user.3 user.1.phase refl))
      (λ (home : (machine : M) × (s.homes ≡ some (Some machine) ∷ []) × IsRun start steps may r.history (state machine) × (sum_by machines s.views ≡ 0)). home)
      r.slot
    where
      mine : tickets (length r.history) v ≡ 1
      mine = ap (tickets_in (length r.history)) waits ∙ same_is_one (length r.history) (length r.history) refl

      no_machine : machines v ≡ 0
      no_machine = ap machines_in waits

      clash : (other : ℕ) (u : View C R) → get_elem? s.views other ≡ some u → 0 < machines u → (p : Phase) → u.phase ≡ p → ⊥
      clash other u there has Free is = absurd (let none_here : machines u ≡ 0 = ap machines_in is in omega arith)
      clash other u there has (Waiting k) is = absurd (let none_here : machines u ≡ 0 = ap machines_in is in omega arith)
      clash other u there has (InTurn k) is =
          let now = ((r.each_fits other u there).in_turn k is).0 in
          let theirs : tickets (length r.history) u ≡ 1 = ap (tickets_in (length r.history)) is ∙ same_is_one k (length r.history) now in
          let same = served_once r.history r.drawn s.views id other v u r.tickets_out at there mine theirs in
          let view_is : v ≡ u = some-injective _ _ (sym at ∙ (ap (get_elem? s.views) same ∙ there)) in
          let none_here : machines u ≡ 0 = ap machines (sym view_is) ∙ no_machine in
          omega arith

  served_kept : (s : State (Option M) (View C R)) (r : Kept s) (id : ℕ) (v : View C R) (m : ℕ) → get_elem? s.views id ≡ some v → v.phase ≡ Waiting (length r.history) → v.name ≡ Some m
      → Kept record { words = r.drawn ∷ length r.history ∷ r.next ∷ []; homes = set s.homes 0 none; views = set s.views id (in_turn (length r.history) r.history r.next v) }
  served_kept s r id v m at waits name =
      let w = in_turn (length r.history) r.history r.next v in
      let fits = r.each_fits id v at in
      let home = home_at s r id v at waits in
      let all_known = r.each_fits r.known.0 r.known.1 r.known.2 in
      changed state start steps may s r id v w (set s.homes 0 none) r.drawn r.next at (λ _. refl) refl r.served (omega arith)
      record {
        seen = begins_self r.history;
        done = fits.done;
        done_seen = fits.done;
        unnamed = λ nameless. absurd (let both : None ≡ Some m = sym nameless ∙ name in cc);
        in_turn = λ t now. (let e : InTurn (length r.history) ≡ InTurn t = now in let k : t ≡ length r.history = cc in k, refl);
        bound = omega arith;
        numbers_below = All-weaker (λ (j : Joined C R). j.number < v.bound) (λ (j : Joined C R). j.number < r.next) (λ j below. let b = fits.bound in omega arith) (claims v) fits.numbers_below;
        entries_below = subst (All (λ (e : Entry C R). e.number < r.next)) r.known.3
            (All-weaker (λ (e : Entry C R). e.number < r.known.1.bound) (λ (e : Entry C R). e.number < r.next) (λ e below. let b = all_known.bound in omega arith) r.known.1.seen all_known.entries_below);
        beside = begins_nil r.history;
        spent = λ no_part. absurd (let none_left = (fits.spent no_part).0 in let some_left = Rattle.turn_lock.proofs.Facts.claims_named v m name in let both = sym none_left ∙ some_left in cc);
      }
      (λ t. subst (IsOneWithin (length r.history) r.drawn t) (sym (sum_same (tickets t) s.views id v w at (sym (ap (tickets_in t) waits)))) (r.tickets_out t))
      (λ x. subst (IsOneWithin 0 r.next x) (sym (sum_same (uses x) s.views id v w at refl)) (r.numbers_out x))
      (inl (ap (λ hs. set hs 0 none) home.1, let sum = sum_set machines s.views id v w at in let was : machines v ≡ 0 = ap machines_in waits in let zero_sum = home.3 in omega arith))

  pub serves : (slots id : ℕ) (me : Me (Option M) (View C R)) (ticket m : ℕ) → me.0.phase ≡ Waiting ticket → me.0.name ≡ Some m
      → Allows Kept slots id me 1 (λ n. n) (Serves state start steps may (step slots 1 0 0 none) me)
  serves slots id me ticket m waits name s r _ at _ = rw r.words (dite (ℕ_discrete (length r.history) ticket)
      (λ hit.
      let now : me.0.phase ≡ Waiting (length r.history) = waits ∙ ap Waiting (sym hit) in
      let home = home_at s r id me.0 at now in (
        in_turn (length r.history) r.history r.next me.0,
        takes 0 (Some home.0),
        ap (λ hs. get_elem? hs 0) home.1,
        served_kept s r id me.0 m at now name,
        record {
          served = λ _. (home.0, record { history = r.history; bound = r.next; me = refl; seen = (r.each_fits id me.0 at).seen; done = (r.each_fits id me.0 at).done; run = home.2 });
          others = λ t waits_too other. absurd (other (let e : Waiting ticket ≡ Waiting t = sym waits ∙ waits_too in let k : ticket ≡ t = cc in hit ∙ k));
        },
      ))
      (λ miss. (
        me.0,
        keeps,
        tt,
        unchanged state start steps may s r id me.0 at,
        record {
          served = λ now. absurd (miss (let e : Waiting ticket ≡ Waiting (length r.history) = sym waits ∙ now in let k : ticket ≡ length r.history = cc in sym k));
          others = λ _ _ _. refl;
        },
      )))
