-- What follows from the rule for one view, and from that for what callers see.
use Rattle.std.proofs.Common.{◌≡◌, ◌≢◌, ℕ, suc, ◌≤◌, ◌<◌, eqb, cond, length, List, [], ◌∷◌, ◌++◌, map, refl, sym, ap, ◌∙◌, subst, arith, ne_eqb}
use Rattle.std.specs.Prelude.{sum_by, count_by, All, AllPairs, Contains, Option, Some, None, unwrap_or}
use Rattle.std.proofs.lemmas.List.Sums.{sum_by-cons}
use Rattle.std.proofs.lemmas.List.Elements.{All-nil, All-cons, All-head, All-tail, All-weaker, All-map}
use mathlib.Core.Logic.{dite}
use native.Mathlib.Decide.{ℕ_discrete, dec_lt}
use mathlib.Core.Option.{some, some-injective}
use lib.ListN.{get_elem?}
use Rattle.atomic_table.specs.Table.{State, Me}
use Rattle.atomic_table.specs.Seated.{TableId}
use Rattle.turn_lock.specs.declared.entry.Entry.{Entry}
use Rattle.turn_lock.specs.declared.entry.Joined.{Joined}
use Rattle.turn_lock.specs.declared.view.View.{View}
use Rattle.turn_lock.specs.History.{Begins, entries_of, IsRun, Lawful, StepRelation, Permission}
use Rattle.turn_lock.specs.Standing.{Standing, numbers_of, SeatIsSound, IsNew, all_parts, standing}
use Rattle.turn_lock.specs.inner.Rule.{own_claim, claims, uses, parts_of, IsKept, first_view}
use Rattle.turn_lock.specs.inner.Steps.{names, Knows, with_part_less, HasTurn}
use Rattle.turn_lock.specs.inner.Places.{MayEnd}
use Rattle.turn_lock.proofs.Histories.{begins_none, legal_front, run_none, begins_nil, none_behind}
use Rattle.turn_lock.proofs.Counts.{one_below, two_below, one_there, differ_from_counts}

module _ {C R : Type 0} where
  -- a number of a list of claims is one of their numbers
  counted_in : (n : ℕ) (js : List (Joined C R)) → 0 < count_by (λ j. eqb j.number n) js → Contains (map (λ (j : Joined C R). j.number) js) n
  counted_in n [] h = absurd (omega arith)
  counted_in n (j ∷ js) h = dite (ℕ_discrete j.number n)
      (λ same. (0, omega arith, same))
      (λ other. let miss : cond {A = ℕ} (eqb j.number n) 1 0 ≡ 0 = rw (ne_eqb j.number n other) in
      let r = counted_in n js (omega (arith, sum_by-cons (λ (i : Joined C R). cond {A = ℕ} (eqb i.number n) 1 0) j js)) in
      (suc r.0, omega arith, r.2))

  -- a seat with all parts is the only one that is not spent
  others_spent : (history : List (Entry C R)) (next : ℕ) (views : List (View C R)) (seat other : ℕ) (v w : View C R)
      → sum_by parts_of views ≡ all_parts → v.parts ≡ all_parts → get_elem? views seat ≡ some v → get_elem? views other ≡ some w → seat ≢ other → w.parts ≡ 0
  others_spent history next views seat other v w total mine at there apart =
      let both = two_below parts_of views seat other v w apart at there in omega arith

module _ {M S C R : Type 0} (state : M → S) (start : S) (steps : StepRelation S C R) (may : Permission C R) where
  abbrev Kept : State (Option M) (View C R) → Type 0
  Kept = IsKept state start steps may

  -- a seat with all parts has seen the whole history
  pub sees_all : (s : State (Option M) (View C R)) (r : Kept s) (seat : ℕ) (v : View C R) → get_elem? s.views seat ≡ some v → v.parts ≡ all_parts → v.seen ≡ r.history
  sees_all s r seat v at whole = dite (ℕ_discrete seat r.known.0)
      (λ same. ap (λ (u : View C R). u.seen) (some-injective _ _ (sym at ∙ (ap (get_elem? s.views) same ∙ r.known.2))) ∙ r.known.3)
      (λ other.
      let spent = (r.each_fits r.known.0 r.known.1 r.known.2).spent (others_spent r.history r.next s.views seat r.known.0 v r.known.1 r.parts_out whole at r.known.2 other) in
      let empty : r.history ≡ [] = sym r.known.3 ∙ spent.1 in
      begins_none v.seen (subst (Begins v.seen) empty (r.each_fits seat v at).seen) ∙ sym empty)

  -- with all parts, each number of the history is one of the seat's
  all_mine : (s : State (Option M) (View C R)) (r : Kept s) (seat : ℕ) (v : View C R) → get_elem? s.views seat ≡ some v → v.parts ≡ all_parts
      → (n : ℕ) → n < r.next → Contains (names v) n
  all_mine s r seat v at whole n below =
      counted_in n (claims v) (let used = (r.numbers_out n).0 (omega arith) below in only_one)
    where
      spent_use : (w : View C R) → w.parts ≡ 0 → (j : ℕ) → get_elem? s.views j ≡ some w → uses n w ≡ 0
      spent_use w none_left j there = ap (λ (js : List (Joined C R)). count_by (λ j. eqb j.number n) js) ((r.each_fits j w there).spent none_left).0

      only_one : 0 < uses n v
      only_one =
          let used = (r.numbers_out n).0 (omega arith) below in
          let user = one_there (uses n) s.views (omega arith) in
          dite (ℕ_discrete seat user.0)
          (λ same. subst (λ (u : View C R). 0 < uses n u) (some-injective _ _ (sym user.2 ∙ (ap (get_elem? s.views) (sym same) ∙ at))) user.3)
          (λ other. absurd (let z = spent_use user.1 (others_spent r.history r.next s.views seat user.0 v user.1 r.parts_out whole at user.2 other) user.0 user.2 in omega (arith, user.3)))

  -- what the rule says of one view alone
  pub knows : (s : State (Option M) (View C R)) → Kept s → (seat : ℕ) (v : View C R) → get_elem? s.views seat ≡ some v → Knows start steps may v
  knows s r seat v at =
      let fits = r.each_fits seat v at in record {
        legal = legal_front start steps may v.seen r.history fits.seen r.legal;
        names_differ = differ_from_counts (λ (j : Joined C R). j.number) (claims v) (λ x. at_most x);
        done_seen = fits.done_seen;
        none_else = λ whole. All-weaker (λ (e : Entry C R). e.number < v.bound) (λ (e : Entry C R). Contains (names v) e.number)
            (λ e below. all_mine s r seat v at whole e.number (let b = fits.bound in omega arith)) v.seen fits.entries_below;
        some_parts = (let b = one_below parts_of s.views seat v at in let t = r.parts_out in omega arith);
        without_part = λ none. (fits.spent none).0;
        numbers_below = fits.numbers_below;
        entries_below = fits.entries_below;
        beside = fits.beside;
      }
    where
      at_most : (x : ℕ) → uses x v ≤ 1
      at_most x =
          let out = r.numbers_out x in
          let here = one_below (uses x) s.views seat v at in
          dite (dec_lt x r.next) (λ b. let one = out.0 (omega arith) b in omega arith) (λ nb. let zero_there = out.2 (omega arith) in omega arith)

module _ {C R : Type 0} where
  -- the claims of a view with a number
  pub claims_named : (v : View C R) (n : ℕ) → v.name ≡ Some n → claims v ≡ record { number = n; mine = v.mine } ∷ v.joined
  claims_named v n name = ap (λ (o : Option ℕ). own_claim o v.mine ++ v.joined) name

  pub number_named : (v : View C R) (n : ℕ) → v.name ≡ Some n → unwrap_or v.name 0 ≡ n
  number_named v n name = ap (λ (o : Option ℕ). unwrap_or o 0) name

  -- its numbers, as callers see them
  pub names_seen : (table : TableId) (v : View C R) (n : ℕ) → v.name ≡ Some n → names v ≡ numbers_of (standing table v)
  names_seen table v n name =
      ap (map (λ (j : Joined C R). j.number)) (claims_named v n name) ∙ ap (λ (k : ℕ). k ∷ map (λ (j : Joined C R). j.number) v.joined) (sym (number_named v n name))

  -- of its number, what it did
  pub own_in : (v : View C R) (n : ℕ) (history : List (Entry C R)) → v.name ≡ Some n → All (λ j. entries_of j.number history ≡ j.mine) (claims v) → entries_of n history ≡ v.mine
  own_in v n history name done =
      All-head (λ (j : Joined C R). entries_of j.number history ≡ j.mine) record { number = n; mine = v.mine } v.joined
      (subst (All (λ (j : Joined C R). entries_of j.number history ≡ j.mine)) (claims_named v n name) done)

  -- a turn adds nothing of its number but what it does itself
  pub others_alone : (v : View C R) (n : ℕ) (history : List (Entry C R)) → v.name ≡ Some n → All (λ j. entries_of j.number history ≡ j.mine) (claims v) → All (λ j. entries_of j.number v.seen ≡ j.mine) (claims v)
      → (seen : Begins v.seen history) → (number : ℕ) → unwrap_or v.name 0 ≡ number → entries_of number seen.rest ≡ []
  others_alone v n history name done done_seen seen number is =
      let same : entries_of n (v.seen ++ seen.rest) ≡ entries_of n v.seen = ap (entries_of n) (sym seen.is) ∙ (own_in v n history name done ∙ sym (own_in v n v.seen name done_seen)) in
      subst (λ m. entries_of m seen.rest ≡ []) (sym (number_named v n name) ∙ is) (none_behind n v.seen seen.rest same)

  -- a number that is at least the bound is new to the seat
  pub new_above : (table : TableId) (v : View C R) (n number : ℕ) → v.name ≡ Some n → All (λ j. j.number < v.bound) (claims v) → All (λ e. e.number < v.bound) v.seen → v.bound ≤ number → IsNew number (standing table v)
  new_above table v n number name numbers entries above = record {
    above_numbers = subst (All (λ k. k < number)) (names_seen table v n name)
        (All-map (λ k. k < number) (λ (j : Joined C R). j.number) (claims v) (All-weaker (λ (j : Joined C R). j.number < v.bound) (λ (j : Joined C R). j.number < number) (λ j below. omega arith) (claims v) numbers));
    above_entries = All-weaker (λ (e : Entry C R). e.number < v.bound) (λ (e : Entry C R). e.number < number) (λ e below. omega arith) v.seen entries;
  }

module _ {S C R : Type 0} (start : S) (steps : StepRelation S C R) (may : Permission C R) where
  -- what callers are told of a seat follows from what its view knows
  pub sound : (table : TableId) (v : View C R) (n : ℕ) → v.name ≡ Some n → Knows start steps may v → SeatIsSound start steps may (standing table v)
  sound table v n name k =
      let named = claims_named v n name in
      let done = subst (All (λ (j : Joined C R). entries_of j.number v.seen ≡ j.mine)) named k.done_seen in record {
        legal = k.legal;
        numbers_differ = subst (AllPairs ◌≢◌) (names_seen table v n name) k.names_differ;
        own_entries = ap (λ (m : ℕ). entries_of m v.seen) (number_named v n name) ∙ All-head (λ (j : Joined C R). entries_of j.number v.seen ≡ j.mine) record { number = n; mine = v.mine } v.joined done;
        joined_entries = All-tail (λ (j : Joined C R). entries_of j.number v.seen ≡ j.mine) record { number = n; mine = v.mine } v.joined done;
        some_part = dite (dec_lt 0 v.parts) (λ some. some) (λ not_some. absurd (let nothing = ap length (sym named ∙ k.without_part (omega (arith, not_some))) in omega arith));
        few_parts = k.some_parts;
        none_else = λ whole. subst (λ (ns : List ℕ). All (λ (e : Entry C R). Contains ns e.number) v.seen) (names_seen table v n name) (k.none_else whole);
      }

  pub sound_seen : (table : TableId) (v : View C R) (n : ℕ) → v.name ≡ Some n → Knows start steps may v → (seat : Standing C R) → standing table v ≡ seat → SeatIsSound start steps may seat
  sound_seen table v n name k seat is = subst (SeatIsSound start steps may) is (sound table v n name k)

  -- what its seat may ask can be answered, once its turn has come
  pub can_answer : (can : S → C → Type 0) (table : TableId) (v : View C R) (n : ℕ) (history : List (Entry C R)) (state : S) (call : C) → Lawful start steps can may → v.name ≡ Some n
      → All (λ j. entries_of j.number history ≡ j.mine) (claims v) → IsRun start steps may history state → (seat : Standing C R) → standing table v ≡ seat → may seat.number seat.mine call → can state call
  can_answer can table v n history state call lawful name done run seat is allowed =
      let number = sym (ap (λ (s : Standing C R). s.number) is) ∙ number_named v n name in
      let mine = sym (ap (λ (s : Standing C R). s.mine) is) ∙ sym (own_in v n history name done) in
      lawful history state n call run (subst (λ (s : ℕ × List (Entry C R)). may s.0 s.1 call) (λ i. (number i, mine i)) allowed)

  -- a seat whose turn has come may end it with a step for its call
  pub may_end : {M : Type 0} (state : M → S) (table : TableId) (me after : Me (Option M) (View C R)) (n ticket : ℕ) (call said : C) (reply replied : R) (before machine : M)
      → me.0.name ≡ Some n → me.1 ≡ [] → HasTurn state start steps may ticket me before None after → (seat : Standing C R) → standing table me.0 ≡ seat → may seat.number seat.mine call
      → said ≡ call → replied ≡ reply → steps (state before) call reply (state machine) → MayEnd state start steps may ticket said replied machine after
  may_end state table me after n ticket call said reply replied before machine name empty turn seat is allowed same_call same_reply step =
      let number = sym (ap (λ (s : Standing C R). s.number) is) ∙ number_named me.0 n name in
      let mine = sym (ap (λ (s : Standing C R). s.mine) is) ∙ sym (ap (λ m. m.0.mine) turn.me) in record {
        number = n;
        name = ap (λ m. m.0.name) turn.me ∙ name;
        phase = ap (λ m. m.0.phase) turn.me;
        slot = ap (λ m. m.1) turn.me ∙ ap (λ l. (0, None) ∷ l) empty;
        allowed = subst (λ (s : ℕ × List (Entry C R) × C). may s.0 s.1 s.2) (λ i. (number i, mine i, sym same_call i)) allowed;
        before = before;
        run = subst (λ m. IsRun start steps may m.0.seen (state before)) (sym turn.me) turn.run;
        step = subst (λ (s : C × R). steps (state before) s.0 s.1 (state machine)) (λ i. (sym same_call i, sym same_reply i)) step;
      }

  -- the first seat
  pub first_knows : Knows start steps may first_view
  first_knows = record {
    legal = (start, run_none start steps may);
    names_differ = λ i j d lt in_range. absurd (omega arith);
    done_seen = All-cons (λ (j : Joined C R). entries_of j.number (first_view {C = C} {R = R}).seen ≡ j.mine) record { number = 0; mine = [] } [] refl (All-nil (λ (j : Joined C R). entries_of j.number (first_view {C = C} {R = R}).seen ≡ j.mine));
    none_else = λ _. All-nil (λ (e : Entry C R). Contains (0 ∷ []) e.number);
    some_parts = omega arith;
    without_part = λ none. absurd (omega (arith, none));
    numbers_below = All-cons (λ (j : Joined C R). j.number < 1) record { number = 0; mine = [] } [] (omega arith) (All-nil (λ (j : Joined C R). j.number < 1));
    entries_below = All-nil (λ (e : Entry C R). e.number < 1);
    beside = begins_nil [];
  }

  -- a view that gave a part away
  pub knows_less : (v : View C R) → 2 ≤ v.parts → Knows start steps may v → Knows start steps may (with_part_less v)
  knows_less v two k = record {
    legal = k.legal;
    names_differ = k.names_differ;
    done_seen = k.done_seen;
    none_else = λ whole. absurd (let few = k.some_parts in omega arith);
    some_parts = (let few = k.some_parts in omega arith);
    without_part = λ none. absurd (omega (arith, none));
    numbers_below = k.numbers_below;
    entries_below = k.entries_below;
    beside = k.beside;
  }
