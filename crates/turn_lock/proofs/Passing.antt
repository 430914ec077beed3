-- Pass on: an entry joins the history.
use Rattle.std.proofs.Common.{◌≡◌, ◌≢◌, ℕ, ◌+◌, ◌≤◌, ◌<◌, eqb, cond, List, [], ◌∷◌, ◌++◌, length, set, get_or, refl, sym, ap, ◌∙◌, subst, inr, ⊎_elim, arith, eq-eqb, length-append}
use Rattle.std.specs.Prelude.{sum_by, count_by, All, Option, Some, None}
use Rattle.std.proofs.lemmas.List.Sums.{sum_by-cons}
use Rattle.std.proofs.lemmas.List.Elements.{All-nil, All-cons, All-tail, All-push, All-head}
use mathlib.Core.Logic.{dite}
use native.Mathlib.Decide.{dec_lt}
use mathlib.Core.Option.{none, some}
use lib.ListN.{get_elem?}
use Rattle.atomic_table.specs.Table.{State, Me, step, gives, Allows}
use Rattle.turn_lock.specs.declared.entry.Entry.{Entry}
use Rattle.turn_lock.specs.declared.entry.Joined.{Joined}
use Rattle.turn_lock.specs.declared.view.View.{View}
use Rattle.turn_lock.specs.declared.view.Phase.TheVariants.{InTurn}
use Rattle.turn_lock.specs.History.{Begins, entries_of, IsRun, StepRelation, Permission}
use Rattle.turn_lock.specs.inner.Rule.{IsOneWithin, one_if_same, tickets_in, machines_in, claims, tickets, uses, machines, parts_of, Fits, IsKept}
use Rattle.turn_lock.specs.inner.Steps.{with_entries, PassesOn}
use Rattle.turn_lock.proofs.Histories.{begins_self, begins_front, begins_trans, own_more, own_same, run_more}
use Rattle.turn_lock.proofs.Counts.{sum_set, sum_same, one_below, two_below, each_set}
use Rattle.turn_lock.proofs.Facts.{claims_named, knows}
use Rattle.turn_lock.proofs.Changes.{same_is_one, one_less, served_once, set_there}

module _ {C R : Type 0} where
  -- a number that no claim has
  none_has : (n : ℕ) (js : List (Joined C R)) → count_by (λ j. eqb j.number n) js ≡ 0 → All (λ j. n ≢ j.number) js
  none_has n [] e = All-nil (λ (j : Joined C R). n ≢ j.number)
  none_has n (j ∷ js) e =
      let parted = sum_by-cons (λ (i : Joined C R). cond {A = ℕ} (eqb i.number n) 1 0) j js in
      All-cons (λ (i : Joined C R). n ≢ i.number) j js
      (λ same. let hit : cond {A = ℕ} (eqb j.number n) 1 0 ≡ 1 = rw (eq-eqb j.number n (sym same)) in absurd (omega arith))
      (none_has n js (omega arith))

  -- of other claims' numbers, the history with one more entry has what it had
  others_same : (history : List (Entry C R)) (e : Entry C R) (js : List (Joined C R)) → All (λ j. e.number ≢ j.number) js → All (λ j. entries_of j.number history ≡ j.mine) js → All (λ j. entries_of j.number (history ++ e ∷ []) ≡ j.mine) js
  others_same history e js other done k d lt = own_same (get_or js k d).number history (get_or js k d).mine e (done k d lt) (other k d lt)

module _ {M S C R : Type 0} (state : M → S) (start : S) (steps : StepRelation S C R) (may : Permission C R) where
  abbrev Kept : State (Option M) (View C R) → Type 0
  Kept = IsKept state start steps may

  module _ (s : State (Option M) (View C R)) (r : Kept s) (id : ℕ) (v : View C R) (at : get_elem? s.views id ≡ some v) (n : ℕ) (name : v.name ≡ Some n)
      (phase : v.phase ≡ InTurn (length r.history)) (e : Entry C R) (own : e.number ≡ n) where
    abbrev w : View C R
    w = with_entries (e ∷ []) v

    abbrev after : List (Entry C R)
    after = r.history ++ e ∷ []

    sees : v.seen ≡ r.history
    sees = ((r.each_fits id v at).in_turn (length r.history) phase).1

    named : claims v ≡ record { number = n; mine = v.mine } ∷ v.joined
    named = claims_named v n name

    uses_name : uses n v ≡ 1 + count_by (λ (j : Joined C R). eqb j.number n) v.joined
    uses_name =
        ap (λ js. count_by (λ (j : Joined C R). eqb j.number n) js) named
        ∙ (sum_by-cons (λ (j : Joined C R). cond {A = ℕ} (eqb j.number n) 1 0) record { number = n; mine = v.mine } v.joined
        ∙ ap (λ b. cond {A = ℕ} b 1 0 + count_by (λ (j : Joined C R). eqb j.number n) v.joined) (eq-eqb n n refl))

    total_of_name : sum_by (uses n) s.views ≤ 1
    total_of_name = let out = r.numbers_out n in let low = out.0 in let high = out.2 in
        dite (dec_lt n r.next) (λ lt. let one = low (omega arith) lt in omega arith) (λ ge. let none_out = high (omega arith) in omega arith)

    others_lack : (j : ℕ) (u : View C R) → j ≢ id → get_elem? s.views j ≡ some u → uses n u ≡ 0
    others_lack j u apart there = let two = two_below (uses n) s.views j id u v apart there at in let mine = uses_name in let few = total_of_name in omega arith

    joined_lack : count_by (λ (j : Joined C R). eqb j.number n) v.joined ≡ 0
    joined_lack = let one = one_below (uses n) s.views id v at in let mine = uses_name in let few = total_of_name in omega arith

    mine_served : tickets (length r.history) v ≡ 1
    mine_served = ap (tickets_in (length r.history)) phase ∙ same_is_one (length r.history) (length r.history) refl

    tickets_left : length r.history < r.drawn
    tickets_left = let one = one_below (tickets (length r.history)) s.views id v at in let mine = mine_served in let out = (r.tickets_out (length r.history)).2 in
        dite (dec_lt (length r.history) r.drawn) (λ lt. lt) (λ ge. let none_out = out (omega arith) in absurd (omega arith))

    apart_from : (js : List (Joined C R)) → count_by (λ (j : Joined C R). eqb j.number n) js ≡ 0 → All (λ (j : Joined C R). e.number ≢ j.number) js
    apart_from js lacks = subst (λ (k : ℕ). All (λ (j : Joined C R). k ≢ j.number) js) (sym own) (none_has n js lacks)

    -- another view fits the longer history
    other_fits : (j : ℕ) (u : View C R) → j ≢ id → get_elem? s.views j ≡ some u → Fits after r.next u
    other_fits j u apart there =
        let f = r.each_fits j u there in record {
          seen = begins_trans f.seen (begins_front r.history (e ∷ []));
          done = others_same r.history e (claims u) (apart_from (claims u) (others_lack j u apart there)) f.done;
          done_seen = f.done_seen;
          unnamed = f.unnamed;
          in_turn = λ t now. absurd (
              let both = f.in_turn t now in
              let theirs : tickets (length r.history) u ≡ 1 = ap (tickets_in (length r.history)) now ∙ same_is_one t (length r.history) both.0 in
              apart (served_once r.history r.drawn s.views j id u v r.tickets_out there at theirs mine_served));
          bound = f.bound;
          numbers_below = f.numbers_below;
          entries_below = f.entries_below;
          beside = f.beside;
          spent = f.spent;
        }

    claims_after : claims w ≡ record { number = n; mine = v.mine ++ e ∷ [] } ∷ v.joined
    claims_after = claims_named w n name

    -- the seat's own view does, with the entry
    own_fits : Fits after r.next w
    own_fits =
        let f = r.each_fits id v at in
        let done = subst (All (λ (j : Joined C R). entries_of j.number r.history ≡ j.mine)) named f.done in
        let below = subst (All (λ (j : Joined C R). j.number < v.bound)) named f.numbers_below in
        let mine : Joined C R = record { number = n; mine = v.mine } in
        let more : Joined C R = record { number = n; mine = v.mine ++ e ∷ [] } in
        let all_done : All (λ (j : Joined C R). entries_of j.number after ≡ j.mine) (claims w) =
        subst (All (λ (j : Joined C R). entries_of j.number after ≡ j.mine)) (sym claims_after)
        (All-cons (λ (j : Joined C R). entries_of j.number after ≡ j.mine) more v.joined
        (own_more n r.history v.mine e (All-head (λ (j : Joined C R). entries_of j.number r.history ≡ j.mine) mine v.joined done) own)
        (others_same r.history e v.joined (apart_from v.joined joined_lack) (All-tail (λ (j : Joined C R). entries_of j.number r.history ≡ j.mine) mine v.joined done))) in
        let seen_now : w.seen ≡ after = ap (λ l. l ++ e ∷ []) sees in record {
          seen = subst (λ l. Begins l after) (sym seen_now) (begins_self after);
          done = all_done;
          done_seen = subst (λ (l : List (Entry C R)). All (λ (j : Joined C R). entries_of j.number l ≡ j.mine) (claims w)) (sym seen_now) all_done;
          unnamed = λ nameless. absurd (let both : None ≡ Some n = sym nameless ∙ name in cc);
          in_turn = λ t now. absurd cc;
          bound = f.bound;
          numbers_below = subst (All (λ (j : Joined C R). j.number < v.bound)) (sym claims_after)
              (All-cons (λ (j : Joined C R). j.number < v.bound) more v.joined (All-head (λ (j : Joined C R). j.number < v.bound) mine v.joined below) (All-tail (λ (j : Joined C R). j.number < v.bound) mine v.joined below));
          entries_below = All-push (λ (x : Entry C R). x.number < v.bound) v.seen e f.entries_below
              (subst (λ (k : ℕ). k < v.bound) (sym own) (All-head (λ (j : Joined C R). j.number < v.bound) mine v.joined below));
          beside = begins_trans f.beside (begins_front v.seen (e ∷ []));
          spent = λ no_part. absurd (let none_left = (f.spent no_part).0 in let both = sym none_left ∙ named in cc);
        }

    module _ (before machine : M) (run : IsRun start steps may r.history (state before)) (allowed : may n v.mine e.call) (made : steps (state before) e.call e.reply (state machine)) where
      run_after : IsRun start steps may after (state machine)
      run_after =
          let f = r.each_fits id v at in
          let done = subst (All (λ (j : Joined C R). entries_of j.number r.history ≡ j.mine)) named f.done in
          let mine = All-head (λ (j : Joined C R). entries_of j.number r.history ≡ j.mine) record { number = n; mine = v.mine } v.joined done in
          run_more start steps may r.history (state before) (state machine) e run
          (subst (λ (k : ℕ). may k (entries_of k r.history) e.call) (sym own) (subst (λ (l : List (Entry C R)). may n l e.call) (sym mine) allowed)) made

      out_now : s.homes ≡ none ∷ []
      out_now = ⊎_elim
          (λ (out : (s.homes ≡ none ∷ []) × (sum_by machines s.views ≡ 1)). out.0)
          (λ (home : (m : M) × (s.homes ≡ some (Some m) ∷ []) × IsRun start steps may r.history (state m) × (sum_by machines s.views ≡ 0)).
          absurd (let has : machines v ≡ 1 = ap machines_in phase in let none_out = home.3 in let one = one_below machines s.views id v at in omega arith))
          r.slot

      one_machine : sum_by machines s.views ≡ 1
      one_machine = ⊎_elim
          (λ (out : (s.homes ≡ none ∷ []) × (sum_by machines s.views ≡ 1)). out.1)
          (λ (home : (m : M) × (s.homes ≡ some (Some m) ∷ []) × IsRun start steps may r.history (state m) × (sum_by machines s.views ≡ 0)).
          absurd (let has : machines v ≡ 1 = ap machines_in phase in let none_out = home.3 in let one = one_below machines s.views id v at in omega arith))
          r.slot

      pub passed_kept : Kept record { words = r.drawn ∷ length after ∷ r.next ∷ []; homes = set s.homes 0 (some (Some machine)); views = set s.views id w }
      passed_kept =
          let longer : length after ≡ length r.history + 1 = length-append r.history (e ∷ []) in
          let left = tickets_left in record {
            history = after;
            drawn = r.drawn;
            next = r.next;
            words = refl;
            served = omega arith;
            legal = (state machine, run_after);
            known = (id, w, set_there s.views id v w at, ap (λ l. l ++ e ∷ []) sees);
            tickets_out = λ t.
                let free_now : tickets t w ≡ 0 = refl in
                let had : tickets t v ≡ one_if_same (length r.history) t = ap (tickets_in t) phase in
                let sum = sum_set (tickets t) s.views id v w at in
                subst (λ (k : ℕ). IsOneWithin k r.drawn t (sum_by (tickets t) (set s.views id w))) (sym longer)
                (one_less (length r.history) r.drawn t (sum_by (tickets t) s.views) (sum_by (tickets t) (set s.views id w)) left (r.tickets_out t) (omega arith));
            numbers_out = λ x. subst (IsOneWithin 0 r.next x) (sym (sum_same (uses x) s.views id v w at (same_use x))) (r.numbers_out x);
            parts_out = sum_same parts_of s.views id v w at refl ∙ r.parts_out;
            slot = inr (
              machine,
              ap (λ hs. set hs 0 (some (Some machine))) out_now,
              run_after,
              let sum = sum_set machines s.views id v w at in let had : machines v ≡ 1 = ap machines_in phase in let one = one_machine in omega arith,
            );
            each_fits = each_set (Fits after r.next) s.views id w own_fits other_fits;
          }
        where
          same_use : (x : ℕ) → uses x w ≡ uses x v
          same_use x =
              ap (λ (js : List (Joined C R)). count_by (λ (j : Joined C R). eqb j.number x) js) claims_after
              ∙ (sum_by-cons (λ (j : Joined C R). cond {A = ℕ} (eqb j.number x) 1 0) record { number = n; mine = v.mine ++ e ∷ [] } v.joined
              ∙ sym (ap (λ (js : List (Joined C R)). count_by (λ (j : Joined C R). eqb j.number x) js) named
              ∙ sum_by-cons (λ (j : Joined C R). cond {A = ℕ} (eqb j.number x) 1 0) record { number = n; mine = v.mine } v.joined))

  passes_at : (slots id : ℕ) (v : View C R) (ticket n : ℕ) (e : Entry C R) (before machine : M) → v.name ≡ Some n → v.phase ≡ InTurn ticket → e.number ≡ n → may n v.mine e.call
      → IsRun start steps may v.seen (state before) → steps (state before) e.call e.reply (state machine)
      → Allows Kept slots id (v, (0, Some machine) ∷ []) 1 (λ _. ticket + 1) (λ _. PassesOn state start steps may (e ∷ []) (step slots 1 (ticket + 1) 0 none) (v, (0, Some machine) ∷ []) (ticket + 1))
  passes_at slots id v ticket n e before machine name phase own allowed run made s r _ at _ =
      let now = (r.each_fits id v at).in_turn ticket phase in
      let in_turn_now : v.phase ≡ InTurn (length r.history) = phase ∙ ap InTurn now.0 in
      let kept = passed_kept s r id v at n name in_turn_now e own before machine (subst (λ (l : List (Entry C R)). IsRun start steps may l (state before)) now.1 run) allowed made in
      let served : length (r.history ++ e ∷ []) ≡ ticket + 1 = length-append r.history (e ∷ []) ∙ ap (λ k. k + 1) (sym now.0) in
      let w = with_entries (e ∷ []) v in
      rw r.words (
        w,
        gives,
        tt,
        subst (λ (k : ℕ). Kept record { words = r.drawn ∷ k ∷ r.next ∷ []; homes = set s.homes 0 (some (Some machine)); views = set s.views id w }) served kept,
        (refl, knows state start steps may record { words = r.drawn ∷ length (r.history ++ e ∷ []) ∷ r.next ∷ []; homes = set s.homes 0 (some (Some machine)); views = set s.views id w } kept id w (set_there s.views id v w at)),
      )

  pub passes : (slots id : ℕ) (me : Me (Option M) (View C R)) (ticket n : ℕ) (added : List (Entry C R)) (e : Entry C R) (before machine : M) → me.1 ≡ (0, Some machine) ∷ [] → added ≡ e ∷ []
      → me.0.name ≡ Some n → me.0.phase ≡ InTurn ticket → e.number ≡ n → may n me.0.mine e.call → IsRun start steps may me.0.seen (state before) → steps (state before) e.call e.reply (state machine)
      → Allows Kept slots id me 1 (λ _. ticket + 1) (λ _. PassesOn state start steps may added (step slots 1 (ticket + 1) 0 none) me (ticket + 1))
  passes slots id me ticket n added e before machine holds is name phase own allowed run made =
      subst (λ (z : List (ℕ × Option M) × List (Entry C R)). Allows Kept slots id (me.0, z.0) 1 (λ _. ticket + 1) (λ _. PassesOn state start steps may z.1 (step slots 1 (ticket + 1) 0 none) (me.0, z.0) (ticket + 1)))
      (λ i. (sym holds i, sym is i)) (passes_at slots id me.0 ticket n e before machine name phase own allowed run made)
