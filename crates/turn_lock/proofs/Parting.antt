-- Split, number and join, and the table at the start and at the end.
use Rattle.std.proofs.Common.{◌≡◌, ℕ, zero, suc, ◌+◌, ◌≤◌, ◌<◌, eqb, cond, List, [], ◌∷◌, ◌++◌, length, set, get_or, refl, sym, ap, ◌∙◌, subst, inr, ⊎_elim, arith, append_assoc, length-append, eq-eqb, ne_eqb}
use Rattle.std.specs.Prelude.{sum_by, count_by, All, Option, Some, None}
use Rattle.std.proofs.lemmas.List.Sums.{sum_by-cons, sum_by-append, sum_by_push}
use Rattle.std.proofs.lemmas.List.{append-nil}
use Rattle.std.proofs.lemmas.List.Elements.{All-nil, All-cons, All-append, All-weaker}
use Rattle.std.proofs.lemmas.Bool.{lt-ltb, le-ltb}
use mathlib.Core.Logic.{dite}
use native.Mathlib.Decide.{ℕ_discrete, dec_lt}
use mathlib.Core.Option.{none, some, some-injective, some-ne-none}
use lib.ListN.{get_elem?}
use prog.Atomic.{either}
use Rattle.atomic_table.specs.Table.{State, Me, step, keeps, opening, Allows, Splits, Joins, Final, Seen}
use Rattle.atomic_table.proofs.Lists.{at_snoc, at_longer, set_else}
use Rattle.turn_lock.specs.declared.entry.Entry.{Entry}
use Rattle.turn_lock.specs.declared.entry.Joined.{Joined}
use Rattle.turn_lock.specs.declared.view.View.{View}
use Rattle.turn_lock.specs.declared.view.Phase.TheVariants.{Free, InTurn}
use Rattle.turn_lock.specs.History.{Begins, entries_of, IsRun, StepRelation, Permission}
use Rattle.turn_lock.specs.Standing.{all_parts, longer}
use Rattle.turn_lock.specs.inner.Rule.{IsOneWithin, one_if_same, tickets_in, machines_in, own_claim, claims, tickets, uses, machines, parts_of, Fits, FitsSlot, IsKept, first_view}
use Rattle.turn_lock.specs.inner.Steps.{with_name, with_part_less, unnamed, merged, shorter, spent, Numbers}
use Rattle.turn_lock.specs.inner.Places.{IsUnnamed}
use Rattle.turn_lock.proofs.Histories.{begins_self, begins_nil, begins_longer, begins_length, nil_from_length, own_between, none_of, run_none}
use Rattle.turn_lock.proofs.Counts.{sum_set, sum_same, two_below, one_there, each_set}
use Rattle.turn_lock.proofs.Facts.{claims_named, knows, sees_all}
use Rattle.turn_lock.proofs.Changes.{one_more, set_there, unchanged, changed}

module _ {C R : Type 0} where
  -- a beginning that is as long as the whole is the whole
  whole_front : (xs hs : List (Entry C R)) → Begins xs hs → length hs ≤ length xs → xs ≡ hs
  whole_front xs hs b le =
      let none_left : b.rest ≡ [] = nil_from_length b.rest (omega (arith, ap length b.is, length-append xs b.rest)) in
      sym (b.is ∙ (ap (λ l. xs ++ l) none_left ∙ append-nil xs))

  -- each of two beginnings of a history begins the longer of them, which begins the history
  pub record IsLonger (xs ys hs : List (Entry C R)) : Type 0 where
    pub left : Begins xs (longer xs ys)
    pub right : Begins ys (longer xs ys)
    pub whole : Begins (longer xs ys) hs
    pub beside : Begins (shorter xs ys) (longer xs ys)

  pub longer_of : (xs ys hs : List (Entry C R)) → Begins xs hs → Begins ys hs → IsLonger xs ys hs
  longer_of xs ys hs a b = dite (dec_lt (length xs) (length ys))
      (λ lt. let is = lt-ltb (length xs) (length ys) lt in record {
        left = subst (λ t. Begins xs (cond t ys xs)) (sym is) (begins_longer a b (omega arith));
        right = subst (λ t. Begins ys (cond t ys xs)) (sym is) (begins_self ys);
        whole = subst (λ t. Begins (cond t ys xs) hs) (sym is) b;
        beside = subst (λ t. Begins (cond t xs ys) (cond t ys xs)) (sym is) (begins_longer a b (omega arith));
      })
      (λ ge. let is = le-ltb (length xs) (length ys) (omega arith) in record {
        left = subst (λ t. Begins xs (cond t ys xs)) (sym is) (begins_self xs);
        right = subst (λ t. Begins ys (cond t ys xs)) (sym is) (begins_longer b a (omega arith));
        whole = subst (λ t. Begins (cond t ys xs) hs) (sym is) a;
        beside = subst (λ t. Begins (cond t xs ys) (cond t ys xs)) (sym is) (begins_longer b a (omega arith));
      })

  -- what begins both begins the longer: so the two lists that a join puts together do
  pub both_begin : (xs ys : List (Entry C R)) → Begins (shorter xs ys) (longer xs ys) → Begins xs (longer xs ys) × Begins ys (longer xs ys)
  both_begin xs ys b = dite (dec_lt (length xs) (length ys))
      (λ lt. let is = lt-ltb (length xs) (length ys) lt in let short = subst (λ t. Begins (cond t xs ys) (cond t ys xs)) is b in
      (subst (λ t. Begins xs (cond t ys xs)) (sym is) short, subst (λ t. Begins ys (cond t ys xs)) (sym is) (begins_self ys)))
      (λ ge. let is = le-ltb (length xs) (length ys) (omega arith) in let short = subst (λ t. Begins (cond t xs ys) (cond t ys xs)) is b in
      (subst (λ t. Begins xs (cond t ys xs)) (sym is) (begins_self xs), subst (λ t. Begins ys (cond t ys xs)) (sym is) short))

  -- what holds of each entry of both holds of each of the longer
  all_longer : (P : Entry C R → Type 0) (xs ys : List (Entry C R)) → All P xs → All P ys → All P (longer xs ys)
  all_longer P xs ys a b = dite (dec_lt (length xs) (length ys))
      (λ lt. subst (λ t. All P (cond t ys xs)) (sym (lt-ltb (length xs) (length ys) lt)) b)
      (λ ge. subst (λ t. All P (cond t ys xs)) (sym (le-ltb (length xs) (length ys) (omega arith))) a)

  nameless : (o : Option ℕ) (mine : List (Entry C R)) (joined : List (Joined C R)) → own_claim o mine ++ joined ≡ [] → o ≡ None
  nameless None mine joined e = refl
  nameless (Some n) mine joined e = absurd cc

  -- a view that is spent has not the machine
  spent_free : (history : List (Entry C R)) (next : ℕ) (u : View C R) → Fits history next u → u.parts ≡ 0 → machines u ≡ 0
  spent_free history next u f no_part = ap machines_in (f.unnamed (nameless u.name u.mine u.joined (f.spent no_part).0)).2

  spent_fits : (history : List (Entry C R)) (next : ℕ) → Fits history next spent
  spent_fits history next = record {
    seen = begins_nil history;
    done = All-nil (λ (j : Joined C R). entries_of j.number history ≡ j.mine);
    done_seen = All-nil (λ (j : Joined C R). entries_of j.number (spent {C = C} {R = R}).seen ≡ j.mine);
    unnamed = λ _. (refl, refl, refl);
    in_turn = λ t now. absurd cc;
    bound = omega arith;
    numbers_below = All-nil (λ (j : Joined C R). j.number < 0);
    entries_below = All-nil (λ (e : Entry C R). e.number < 0);
    beside = begins_nil [];
    spent = λ _. (refl, refl);
  }

module _ {M S C R : Type 0} (state : M → S) (start : S) (steps : StepRelation S C R) (may : Permission C R) where
  abbrev Kept : State (Option M) (View C R) → Type 0
  Kept = IsKept state start steps may

  -- the table at the start
  pub starts : (machine : M) → state machine ≡ start → Kept (opening (0 ∷ 0 ∷ 1 ∷ []) (Some machine ∷ []) first_view)
  starts machine at_start =
      let mine : Joined C R = record { number = 0; mine = [] } in record {
        history = [];
        drawn = 0;
        next = 1;
        words = refl;
        served = omega arith;
        legal = (start, run_none start steps may);
        known = (0, first_view, refl, refl);
        tickets_out = λ t. ((λ l h. absurd (omega arith)), (λ l. refl), (λ h. refl));
        numbers_out = λ x. one_more 0 0 x 0 (sum_by (uses x) (first_view {C = C} {R = R} ∷ [])) (omega arith) ((λ l h. absurd (omega arith)), (λ l. refl), (λ h. refl)) (omega arith);
        parts_out = refl;
        slot = inr (machine, refl, subst (IsRun start steps may []) (sym at_start) (run_none start steps may), refl);
        each_fits = one;
      }
    where
      fits : Fits [] 1 (first_view {C = C} {R = R})
      fits =
          let mine : Joined C R = record { number = 0; mine = [] } in record {
            seen = begins_nil [];
            done = All-cons (λ (j : Joined C R). entries_of j.number [] ≡ j.mine) mine [] refl (All-nil (λ (j : Joined C R). entries_of j.number [] ≡ j.mine));
            done_seen = All-cons (λ (j : Joined C R). entries_of j.number [] ≡ j.mine) mine [] refl (All-nil (λ (j : Joined C R). entries_of j.number [] ≡ j.mine));
            unnamed = λ n. absurd cc;
            in_turn = λ t now. absurd cc;
            bound = omega arith;
            numbers_below = All-cons (λ (j : Joined C R). j.number < 1) mine [] (omega arith) (All-nil (λ (j : Joined C R). j.number < 1));
            entries_below = All-nil (λ (e : Entry C R). e.number < 1);
            beside = begins_nil [];
            spent = λ no_part. absurd (omega arith);
          }

      one : (k : ℕ) (v : View C R) → get_elem? (first_view {C = C} {R = R} ∷ []) k ≡ some v → Fits [] 1 v
      one zero v e = subst (Fits [] 1) (some-injective _ _ e) fits
      one (suc k) v e = absurd (some-ne-none v (sym e))

  -- a part goes to a new seat
  pub splits : (id : ℕ) (v : View C R) (n : ℕ) → v.name ≡ Some n → 2 ≤ v.parts → Splits Kept id v (with_part_less v) (unnamed v)
  splits id v n name two s r at =
      let left = with_part_less v in
      let right = unnamed v in record {
        history = r.history;
        drawn = r.drawn;
        next = r.next;
        words = r.words;
        served = r.served;
        legal = r.legal;
        known = dite (ℕ_discrete r.known.0 id)
            (λ same. (id, left, at_longer (set s.views id left) (right ∷ []) id left (set_there s.views id v left at), ap (λ (u : View C R). u.seen) (some-injective _ _ (sym at ∙ (ap (get_elem? s.views) (sym same) ∙ r.known.2))) ∙ r.known.3))
            (λ other. (r.known.0, r.known.1, at_longer (set s.views id left) (right ∷ []) r.known.0 r.known.1 (set_else s.views id r.known.0 left other ∙ r.known.2), r.known.3));
        tickets_out = λ t. subst (IsOneWithin (length r.history) r.drawn t) (sym (same_sum (tickets t) refl refl)) (r.tickets_out t);
        numbers_out = λ x. subst (IsOneWithin 0 r.next x) (sym (same_sum (uses x) refl refl)) (r.numbers_out x);
        parts_out = (let push = sum_by_push parts_of (set s.views id left) right in let sum = sum_set parts_of s.views id v left at in let all = r.parts_out in omega arith);
        slot = subst (FitsSlot state start steps may s.homes r.history) (sym (same_sum machines refl refl)) r.slot;
        each_fits = λ j u there. ⊎_elim
            (each_set (Fits r.history r.next) s.views id left left_fits (λ i w _ here. r.each_fits i w here) j u)
            (λ (same : right ≡ u). subst (Fits r.history r.next) same right_fits)
            (at_snoc (set s.views id left) right u j there);
      }
    where
      fits : Fits r.history r.next v
      fits = r.each_fits id v at

      same_sum : (f : View C R → ℕ) → f (with_part_less v) ≡ f v → f (unnamed v) ≡ 0 → sum_by f (set s.views id (with_part_less v) ++ unnamed v ∷ []) ≡ sum_by f s.views
      same_sum f same none_new = omega (arith, sum_by_push f (set s.views id (with_part_less v)) (unnamed v), sum_same f s.views id v (with_part_less v) at same)

      left_fits : Fits r.history r.next (with_part_less v)
      left_fits = record {
        seen = fits.seen;
        done = fits.done;
        done_seen = fits.done_seen;
        unnamed = fits.unnamed;
        in_turn = fits.in_turn;
        bound = fits.bound;
        numbers_below = fits.numbers_below;
        entries_below = fits.entries_below;
        beside = fits.beside;
        spent = λ no_part. absurd (omega arith);
      }

      right_fits : Fits r.history r.next (unnamed v)
      right_fits = record {
        seen = fits.seen;
        done = All-nil (λ (j : Joined C R). entries_of j.number r.history ≡ j.mine);
        done_seen = All-nil (λ (j : Joined C R). entries_of j.number v.seen ≡ j.mine);
        unnamed = λ _. (refl, refl, refl);
        in_turn = λ t now. absurd cc;
        bound = fits.bound;
        numbers_below = All-nil (λ (j : Joined C R). j.number < v.bound);
        entries_below = fits.entries_below;
        beside = begins_nil v.seen;
        spent = λ no_part. absurd (omega arith);
      }

  -- the new seat has the next number
  named_kept : (s : State (Option M) (View C R)) (r : Kept s) (id : ℕ) (me : Me (Option M) (View C R)) → get_elem? s.views id ≡ some me.0 → IsUnnamed me
      → Kept record { words = r.drawn ∷ length r.history ∷ (r.next + 1) ∷ []; homes = s.homes; views = set s.views id (with_name r.next me.0) }
  named_kept s r id me at new =
      let v = me.0 in
      let w = with_name r.next v in
      let fits = r.each_fits id v at in
      let mine : Joined C R = record { number = r.next; mine = v.mine } in
      let known_fits = r.each_fits r.known.0 r.known.1 r.known.2 in
      let all_below = subst (All (λ (e : Entry C R). e.number < r.next)) r.known.3
      (All-weaker (λ (e : Entry C R). e.number < r.known.1.bound) (λ (e : Entry C R). e.number < r.next) (λ e below. let b = known_fits.bound in omega arith) r.known.1.seen known_fits.entries_below) in
      let seen_below = All-weaker (λ (e : Entry C R). e.number < v.bound) (λ (e : Entry C R). e.number < r.next) (λ e below. let b = fits.bound in omega arith) v.seen fits.entries_below in
      let nothing_done = none_of r.next r.history (λ k d lt same. let b = all_below k d lt in omega arith) ∙ sym new.mine in
      let nothing_seen = none_of r.next v.seen (λ k d lt same. let b = seen_below k d lt in omega arith) ∙ sym new.mine in
      changed state start steps may s r id v w s.homes r.drawn (r.next + 1) at (λ e. e) refl r.served (omega arith)
      record {
        seen = fits.seen;
        done = All-cons (λ (j : Joined C R). entries_of j.number r.history ≡ j.mine) mine v.joined nothing_done
            (subst (All (λ (j : Joined C R). entries_of j.number r.history ≡ j.mine)) (sym new.joined) (All-nil (λ (j : Joined C R). entries_of j.number r.history ≡ j.mine)));
        done_seen = All-cons (λ (j : Joined C R). entries_of j.number v.seen ≡ j.mine) mine v.joined nothing_seen
            (subst (All (λ (j : Joined C R). entries_of j.number v.seen ≡ j.mine)) (sym new.joined) (All-nil (λ (j : Joined C R). entries_of j.number v.seen ≡ j.mine)));
        unnamed = λ none_left. absurd cc;
        in_turn = λ t now. absurd (let both : Free ≡ InTurn t = sym new.free ∙ now in cc);
        bound = omega arith;
        numbers_below = All-cons (λ (j : Joined C R). j.number < r.next + 1) mine v.joined (omega arith)
            (subst (All (λ (j : Joined C R). j.number < r.next + 1)) (sym new.joined) (All-nil (λ (j : Joined C R). j.number < r.next + 1)));
        entries_below = All-weaker (λ (e : Entry C R). e.number < r.next) (λ (e : Entry C R). e.number < r.next + 1) (λ e below. omega arith) v.seen seen_below;
        beside = fits.beside;
        spent = λ no_part. absurd (let one = new.parts in omega arith);
      }
      (λ t. subst (IsOneWithin (length r.history) r.drawn t) (sym (sum_same (tickets t) s.views id v w at refl)) (r.tickets_out t))
      (λ x. one_more 0 r.next x (sum_by (uses x) s.views) (sum_by (uses x) (set s.views id w)) (omega arith) (r.numbers_out x) (counted x v new.name new.joined (sum_set (uses x) s.views id v w at)))
      (subst (FitsSlot state start steps may s.homes r.history) (sym (sum_same machines s.views id v w at refl)) r.slot)
    where
      counted : (x : ℕ) (v : View C R) → v.name ≡ None → v.joined ≡ [] → sum_by (uses x) (set s.views id (with_name r.next v)) + uses x v ≡ sum_by (uses x) s.views + uses x (with_name r.next v)
          → sum_by (uses x) (set s.views id (with_name r.next v)) ≡ sum_by (uses x) s.views + one_if_same r.next x
      counted x v none_yet empty sum =
          let before : uses x v ≡ 0 = ap (λ (o : Option ℕ). count_by (λ (j : Joined C R). eqb j.number x) (own_claim o v.mine ++ v.joined)) none_yet ∙ ap (λ (js : List (Joined C R)). count_by (λ (j : Joined C R). eqb j.number x) js) empty in
          let after : uses x (with_name r.next v) ≡ one_if_same r.next x + 0 =
          sum_by-cons (λ (j : Joined C R). cond {A = ℕ} (eqb j.number x) 1 0) record { number = r.next; mine = v.mine } v.joined
          ∙ ap (λ (js : List (Joined C R)). one_if_same r.next x + count_by (λ (j : Joined C R). eqb j.number x) js) empty in
          omega arith

  pub numbers : (slots id : ℕ) (me : Me (Option M) (View C R)) (old : ℕ) → IsUnnamed me
      → Allows Kept slots id me 2 (λ n. either (eqb n old) (old + 1) n) (Numbers state start steps may (step slots 2 old (old + 1) none) me)
  numbers slots id me old new s r _ at _ = rw r.words (dite (ℕ_discrete r.next old)
      (λ hit.
      let w = with_name r.next me.0 in
      let kept = named_kept s r id me at new in (
        w,
        keeps,
        tt,
        subst (λ (b : ℕ). Kept record { words = r.drawn ∷ length r.history ∷ b ∷ []; homes = s.homes; views = set s.views id w })
            (sym (ap (λ b. either b (old + 1) r.next) (eq-eqb r.next old hit) ∙ ap (λ k. k + 1) (sym hit))) kept,
        ((λ _. (refl, (r.each_fits id me.0 at).bound, knows state start steps may record { words = r.drawn ∷ length r.history ∷ (r.next + 1) ∷ []; homes = s.homes; views = set s.views id w } kept id w (set_there s.views id me.0 w at))), (λ miss. absurd (miss hit))),
      ))
      (λ miss. (
        me.0,
        keeps,
        tt,
        subst (λ (b : ℕ). Kept record { words = r.drawn ∷ length r.history ∷ b ∷ []; homes = s.homes; views = set s.views id me.0 })
            (sym (ap (λ b. either b (old + 1) r.next) (ne_eqb r.next old miss)))
            (unchanged state start steps may s r id me.0 at),
        ((λ hit. absurd (miss hit)), (λ _. refl)),
      )))

  -- one seat takes in another
  pub joins : (id : ℕ) (v : View C R) (other : ℕ) (u : View C R) (n : ℕ) → v.name ≡ Some n → v.phase ≡ Free → u.phase ≡ Free → Joins Kept id v other u (merged v u) spent
  joins id v other u n name free free_too s r at apart there_now =
      let w = merged v u in record {
        history = r.history;
        drawn = r.drawn;
        next = r.next;
        words = r.words;
        served = r.served;
        legal = r.legal;
        known = known_now;
        tickets_out = λ t. subst (IsOneWithin (length r.history) r.drawn t) (sym (moved_sum (tickets t) refl (ap (tickets_in t) free_too))) (r.tickets_out t);
        numbers_out = λ x. subst (IsOneWithin 0 r.next x) (sym (shared_sum (uses x) (omega (arith, uses_both x)))) (r.numbers_out x);
        parts_out = shared_sum parts_of (omega arith) ∙ r.parts_out;
        slot = subst (FitsSlot state start steps may s.homes r.history) (sym (moved_sum machines refl (ap machines_in free_too))) r.slot;
        each_fits = each_set (Fits r.history r.next) (set s.views id w) other spent (spent_fits r.history r.next)
            (λ j x not_other here. each_set (Fits r.history r.next) s.views id w both_fits (λ i y _ e. r.each_fits i y e) j x here);
      }
    where
      there : get_elem? s.views other ≡ some u
      there = sym (set_else s.views id other (merged v u) apart) ∙ there_now

      mine : Fits r.history r.next v
      mine = r.each_fits id v at

      theirs : Fits r.history r.next u
      theirs = r.each_fits other u there

      -- the two views together have what they had
      shared_sum : (f : View C R → ℕ) → f (merged v u) + f spent ≡ f v + f u → sum_by f (set (set s.views id (merged v u)) other spent) ≡ sum_by f s.views
      shared_sum f same = omega (arith, sum_set f (set s.views id (merged v u)) other u spent there_now, sum_set f s.views id v (merged v u) at)

      moved_sum : (f : View C R → ℕ) → f (merged v u) ≡ f v → f u ≡ f spent → sum_by f (set (set s.views id (merged v u)) other spent) ≡ sum_by f s.views
      moved_sum f same none_there = shared_sum f (omega arith)

      both_claims : claims (merged v u) ≡ claims v ++ claims u
      both_claims = sym (append_assoc (own_claim v.name v.mine) v.joined (claims u))

      uses_both : (x : ℕ) → uses x (merged v u) ≡ uses x v + uses x u
      uses_both x = ap (λ (js : List (Joined C R)). count_by (λ (j : Joined C R). eqb j.number x) js) both_claims ∙ sum_by-append (λ (j : Joined C R). cond {A = ℕ} (eqb j.number x) 1 0) (claims v) (claims u)

      lists : IsLonger v.seen u.seen r.history
      lists = longer_of v.seen u.seen r.history mine.seen theirs.seen

      all_between : (xs : List (Entry C R)) (js : List (Joined C R)) → Begins xs (longer v.seen u.seen) → All (λ (j : Joined C R). entries_of j.number r.history ≡ j.mine) js → All (λ (j : Joined C R). entries_of j.number xs ≡ j.mine) js
          → All (λ (j : Joined C R). entries_of j.number (longer v.seen u.seen) ≡ j.mine) js
      all_between xs js b high low k d lt = own_between (get_or js k d).number xs (longer v.seen u.seen) r.history (get_or js k d).mine b lists.whole (low k d lt) (high k d lt)

      both_fits : Fits r.history r.next (merged v u)
      both_fits = record {
        seen = lists.whole;
        done = subst (All (λ (j : Joined C R). entries_of j.number r.history ≡ j.mine)) (sym both_claims) (All-append (λ (j : Joined C R). entries_of j.number r.history ≡ j.mine) (claims v) (claims u) mine.done theirs.done);
        done_seen = subst (All (λ (j : Joined C R). entries_of j.number (longer v.seen u.seen) ≡ j.mine)) (sym both_claims)
            (All-append (λ (j : Joined C R). entries_of j.number (longer v.seen u.seen) ≡ j.mine) (claims v) (claims u)
            (all_between v.seen (claims v) lists.left mine.done mine.done_seen) (all_between u.seen (claims u) lists.right theirs.done theirs.done_seen));
        unnamed = λ none_left. absurd (let both : None ≡ Some n = sym none_left ∙ name in cc);
        in_turn = λ t now. absurd (let both : Free ≡ InTurn t = sym free ∙ now in cc);
        bound = (let a = mine.bound in let b = theirs.bound in omega arith);
        numbers_below = subst (All (λ (j : Joined C R). j.number < (merged v u).bound)) (sym both_claims)
            (All-append (λ (j : Joined C R). j.number < (merged v u).bound) (claims v) (claims u)
            (All-weaker (λ (j : Joined C R). j.number < v.bound) (λ (j : Joined C R). j.number < (merged v u).bound) (λ j below. omega arith) (claims v) mine.numbers_below)
            (All-weaker (λ (j : Joined C R). j.number < u.bound) (λ (j : Joined C R). j.number < (merged v u).bound) (λ j below. omega arith) (claims u) theirs.numbers_below));
        entries_below = all_longer (λ (e : Entry C R). e.number < (merged v u).bound) v.seen u.seen
            (All-weaker (λ (e : Entry C R). e.number < v.bound) (λ (e : Entry C R). e.number < (merged v u).bound) (λ e below. omega arith) v.seen mine.entries_below)
            (All-weaker (λ (e : Entry C R). e.number < u.bound) (λ (e : Entry C R). e.number < (merged v u).bound) (λ e below. omega arith) u.seen theirs.entries_below);
        beside = lists.beside;
        spent = λ no_part. absurd (let none_left = (mine.spent (omega arith)).0 in let some_left = claims_named v n name in let both = sym none_left ∙ some_left in cc);
      }

      here_now : get_elem? (set (set s.views id (merged v u)) other spent) id ≡ some (merged v u)
      here_now = set_else (set s.views id (merged v u)) other id spent (λ e. apart (sym e)) ∙ set_there s.views id v (merged v u) at

      -- if one of the two had seen the whole history, both together have
      sees_whole : (xs : List (Entry C R)) → Begins xs (longer v.seen u.seen) → xs ≡ r.history → longer v.seen u.seen ≡ r.history
      sees_whole xs b is = whole_front (longer v.seen u.seen) r.history lists.whole (let le = begins_length b in let l = ap length is in omega arith)

      known_now : (seat : ℕ) × (x : View C R) × (get_elem? (set (set s.views id (merged v u)) other spent) seat ≡ some x) × (x.seen ≡ r.history)
      known_now = dite (ℕ_discrete r.known.0 id)
          (λ same. (id, merged v u, here_now, sees_whole v.seen lists.left (ap (λ (x : View C R). x.seen) (some-injective _ _ (sym at ∙ (ap (get_elem? s.views) (sym same) ∙ r.known.2))) ∙ r.known.3)))
          (λ not_id. dite (ℕ_discrete r.known.0 other)
          (λ same. (id, merged v u, here_now, sees_whole u.seen lists.right (ap (λ (x : View C R). x.seen) (some-injective _ _ (sym there ∙ (ap (get_elem? s.views) (sym same) ∙ r.known.2))) ∙ r.known.3)))
          (λ not_other. (r.known.0, r.known.1, set_else (set s.views id (merged v u)) other r.known.0 spent not_other ∙ (set_else s.views id r.known.0 (merged v u) not_id ∙ r.known.2), r.known.3)))

  -- the table at the end: the machine is in its slot, at the run of what the last seat has seen
  pub closes : (id : ℕ) (v : View C R) (ws : List ℕ) (xs : List (Option M)) → v.parts ≡ all_parts → v.phase ≡ Free → Final (Seen Kept id v) ws xs
      → (machine : M) × (get_elem? xs 0 ≡ some (Some machine)) × IsRun start steps may v.seen (state machine)
  closes id v ws xs whole free (s, (r, at), words, count, values) = ⊎_elim
      (λ (out : (s.homes ≡ none ∷ []) × (sum_by machines s.views ≡ 1)). absurd (
      let user = one_there machines s.views (let one = out.1 in omega arith) in
      let free_user : machines user.1 ≡ 0 = dite (ℕ_discrete id user.0)
      (λ same. ap machines (some-injective _ _ (sym user.2 ∙ (ap (get_elem? s.views) (sym same) ∙ at))) ∙ ap machines_in free)
      (λ other. spent_free r.history r.next user.1 (r.each_fits user.0 user.1 user.2) (let two = two_below parts_of s.views id user.0 v user.1 other at user.2 in let all = r.parts_out in omega arith)) in
      let has = user.3 in omega arith))
      (λ (home : (m : M) × (s.homes ≡ some (Some m) ∷ []) × IsRun start steps may r.history (state m) × (sum_by machines s.views ≡ 0)). (
        home.0,
        values 0 (Some home.0) (ap (λ hs. get_elem? hs 0) home.1),
        subst (λ (l : List (Entry C R)). IsRun start steps may l (state home.0)) (sym (sees_all state start steps may s r id v at whole)) home.2,
      ))
      r.slot
