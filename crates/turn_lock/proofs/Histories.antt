-- Lists that begin with others, and histories with one entry more or fewer.
use Rattle.std.proofs.Common.{◌≡◌, ◌≢◌, ℕ, zero, suc, ◌+◌, ◌≤◌, ◌<◌, eqb, List, [], ◌∷◌, ◌++◌, length, filter, refl, sym, ap, ◌∙◌, subst, arith, append_assoc, length-append, eq-eqb, ne_eqb}
use Rattle.std.proofs.lemmas.List.{append-nil}
use Rattle.std.proofs.lemmas.List.Elements.{filter-append, All-head, All-tail}
use Rattle.turn_lock.specs.declared.entry.Entry.{Entry}
use Rattle.turn_lock.specs.Laws.{LastStep, RunThrough, KeptWhere, BetweenNone}
use Rattle.turn_lock.specs.History.{Begins, entries_of, Leads, EachAllowed, IsRun, IsLegal, StepRelation, Permission}

module _ {X : Type 0} where
  pub begins_self : (xs : List X) → Begins xs xs
  begins_self xs = record { rest = []; is = sym (append-nil xs) }

  pub begins_nil : (xs : List X) → Begins [] xs
  begins_nil xs = record { rest = xs; is = refl }

  pub begins_front : (xs ys : List X) → Begins xs (xs ++ ys)
  begins_front xs ys = record { rest = ys; is = refl }

  pub begins_trans : {xs ys zs : List X} → Begins xs ys → Begins ys zs → Begins xs zs
  begins_trans {xs} {ys} {zs} a b =
      record { rest = a.rest ++ b.rest; is = b.is ∙ (ap (λ l. l ++ b.rest) a.is ∙ append_assoc xs a.rest b.rest) }

  split_front : (xs ys r t : List X) → xs ++ r ≡ ys ++ t → length xs ≤ length ys → Begins xs ys
  split_front [] ys r t e l = begins_nil ys
  split_front (x ∷ xs) [] r t e l = absurd (omega arith)
  split_front (x ∷ xs) (y ∷ ys) r t e l =
      let tails : xs ++ r ≡ ys ++ t = cc in
      let heads : y ≡ x = cc in
      let b = split_front xs ys r t tails (omega arith) in
      record { rest = b.rest; is = λ i. heads i ∷ b.is i }

  -- of two beginnings of one list the shorter begins the longer
  pub begins_longer : {xs ys hs : List X} → Begins xs hs → Begins ys hs → length xs ≤ length ys → Begins xs ys
  begins_longer {xs} {ys} a b l = split_front xs ys a.rest b.rest (sym a.is ∙ b.is) l

  pub nil_from_length : (xs : List X) → length xs ≡ 0 → xs ≡ []
  nil_from_length [] e = refl
  nil_from_length (x ∷ xs) e = absurd (omega arith)

  -- a beginning of nothing is nothing
  pub begins_none : (xs : List X) → Begins xs [] → xs ≡ []
  begins_none xs b = nil_from_length xs (omega (arith, ap length b.is, length-append xs b.rest))

  pub begins_length : {xs ys : List X} → Begins xs ys → length xs ≤ length ys
  begins_length {xs} b = omega (arith, ap length b.is, length-append xs b.rest)

module _ {C R : Type 0} where
  pub entries_of-append : (n : ℕ) (xs ys : List (Entry C R)) → entries_of n (xs ++ ys) ≡ entries_of n xs ++ entries_of n ys
  entries_of-append n xs ys = filter-append (λ e. eqb e.number n) xs ys

  pub entries_of-own : (n : ℕ) (e : Entry C R) → e.number ≡ n → entries_of n (e ∷ []) ≡ e ∷ []
  entries_of-own n e is = rw (eq-eqb e.number n is)

  pub entries_of-other : (n : ℕ) (e : Entry C R) → e.number ≢ n → entries_of n (e ∷ []) ≡ []
  entries_of-other n e other = rw (ne_eqb e.number n other)

  -- with an entry of its own
  pub own_more : (n : ℕ) (xs mine : List (Entry C R)) (e : Entry C R) → entries_of n xs ≡ mine → e.number ≡ n → entries_of n (xs ++ e ∷ []) ≡ mine ++ e ∷ []
  own_more n xs mine e is own = entries_of-append n xs (e ∷ []) ∙ (ap (λ l. l ++ entries_of n (e ∷ [])) is ∙ ap (λ l. mine ++ l) (entries_of-own n e own))

  -- with an entry of another's
  pub own_same : (n : ℕ) (xs mine : List (Entry C R)) (e : Entry C R) → entries_of n xs ≡ mine → e.number ≢ n → entries_of n (xs ++ e ∷ []) ≡ mine
  own_same n xs mine e is other = entries_of-append n xs (e ∷ []) ∙ (ap (λ l. l ++ entries_of n (e ∷ [])) is ∙ (ap (λ l. mine ++ l) (entries_of-other n e other) ∙ append-nil mine))

  -- where a beginning has all entries of a number, so has each list between it and the whole
  pub own_between : (n : ℕ) (xs ys hs mine : List (Entry C R)) → Begins xs ys → Begins ys hs → entries_of n xs ≡ mine → entries_of n hs ≡ mine → entries_of n ys ≡ mine
  own_between n xs ys hs mine a b low high =
      let more : List (Entry C R) = entries_of n a.rest in
      let most : List (Entry C R) = entries_of n b.rest in
      let middle : entries_of n ys ≡ mine ++ more = ap (entries_of n) a.is ∙ (entries_of-append n xs a.rest ∙ ap (λ l. l ++ more) low) in
      let all : entries_of n hs ≡ (mine ++ more) ++ most = ap (entries_of n) b.is ∙ (entries_of-append n ys b.rest ∙ ap (λ l. l ++ most) middle) in
      let lengths : length mine ≡ length ((mine ++ more) ++ most) = ap length (sym high ∙ all) in
      let none : more ≡ [] = nil_from_length more (omega (arith, length-append (mine ++ more) most, length-append mine more)) in
      middle ∙ (ap (λ l. mine ++ l) none ∙ append-nil mine)

  -- where all entries of a number stand in front, none stands behind
  pub none_behind : BetweenNone C R
  none_behind n front between same =
      let both = entries_of-append n front between in
      nil_from_length (entries_of n between) (omega (arith, ap length both, ap length same, length-append (entries_of n front) (entries_of n between)))

  -- entries of a number below which all numbers of a list lie
  pub none_of : (n : ℕ) (xs : List (Entry C R)) → ((k : ℕ) (d : Entry C R) → k < length xs → (Rattle.std.proofs.Common.get_or xs k d).number ≢ n) → entries_of n xs ≡ []
  none_of n [] h = refl
  none_of n (x ∷ xs) h = rw (ne_eqb x.number n (h 0 x (omega arith))) (none_of n xs (λ k d l. h (suc k) d (omega arith)))

module _ {S C R : Type 0} (steps : StepRelation S C R) where
  pub leads_more : (from mid to : S) (xs : List (Entry C R)) (e : Entry C R) → Leads steps from xs mid → steps mid e.call e.reply to → Leads steps from (xs ++ e ∷ []) to
  leads_more from mid to [] e l s = (to, subst (λ (z : S). steps z e.call e.reply to) (sym l) s, refl)
  leads_more from mid to (x ∷ xs) e l s = (l.0, l.1, leads_more l.0 mid to xs e l.2 s)

  leads_through : (from to : S) (xs ys : List (Entry C R)) → Leads steps from (xs ++ ys) to → (mid : S) × Leads steps from xs mid × Leads steps mid ys to
  leads_through from to [] ys l = (from, refl, l)
  leads_through from to (x ∷ xs) ys l = let r = leads_through l.0 to xs ys l.2 in (r.0, (l.0, l.1, r.1), r.2)

module _ {C R : Type 0} (may : Permission C R) where
  allowed_more : (before xs : List (Entry C R)) (e : Entry C R) → EachAllowed may before xs → may e.number (entries_of e.number (before ++ xs)) e.call → EachAllowed may before (xs ++ e ∷ [])
  allowed_more before [] e a m = (subst (λ l. may e.number (entries_of e.number l) e.call) (append-nil before) m, tt)
  allowed_more before (x ∷ xs) e a m = (a.0, allowed_more (before ++ x ∷ []) xs e a.1 (subst (λ l. may e.number (entries_of e.number l) e.call) (sym (append_assoc before (x ∷ []) xs)) m))

  allowed_front : (before xs ys : List (Entry C R)) → EachAllowed may before (xs ++ ys) → EachAllowed may before xs
  allowed_front before [] ys a = tt
  allowed_front before (x ∷ xs) ys a = (a.0, allowed_front (before ++ x ∷ []) xs ys a.1)

  allowed_back : (before xs ys : List (Entry C R)) → EachAllowed may before (xs ++ ys) → EachAllowed may (before ++ xs) ys
  allowed_back before [] ys a = subst (λ l. EachAllowed may l ys) (sym (append-nil before)) a
  allowed_back before (x ∷ xs) ys a = subst (λ l. EachAllowed may l ys) (append_assoc before (x ∷ []) xs) (allowed_back (before ++ x ∷ []) xs ys a.1)

module _ {S C R : Type 0} (start : S) (steps : StepRelation S C R) (may : Permission C R) where
  -- a run goes on with an allowed step
  pub run_more : (xs : List (Entry C R)) (mid to : S) (e : Entry C R) → IsRun start steps may xs mid → may e.number (entries_of e.number xs) e.call → steps mid e.call e.reply to → IsRun start steps may (xs ++ e ∷ []) to
  run_more xs mid to e r m s = record { allowed = allowed_more may [] xs e r.allowed m; leads = leads_more steps start mid to xs e r.leads s }

  pub run_none : IsRun start steps may [] start
  run_none = record { allowed = tt; leads = refl }

  -- a run through any place in it
  pub run_cut : RunThrough start steps may
  run_cut front back after run =
      let lead = leads_through steps start after front back run.leads in record {
        state = lead.0;
        run = record { allowed = allowed_front may [] front back run.allowed; leads = lead.1 };
        allowed = allowed_back may [] front back run.allowed;
        leads = lead.2;
      }

  -- a run's last entry
  pub run_last : LastStep start steps may
  run_last before last after run =
      let cut = run_cut before (last ∷ []) after run in record {
        state = cut.state;
        run = cut.run;
        allowed = cut.allowed.0;
        step = subst (λ (to : S). steps cut.state last.call last.reply to) cut.leads.2 cut.leads.1;
      }

  -- what each further entry keeps
  pub kept_by_all : (OfKind : Entry C R → Type 0) (Holds : S → Type 0) → KeptWhere start steps may OfKind Holds
  kept_by_all OfKind Holds each front [] between after run allowed leads kind holds = subst Holds leads holds
  kept_by_all OfKind Holds each front (e ∷ back) between after run allowed leads kind holds =
      let next = run_more front between leads.0 e run allowed.0 leads.1 in
      kept_by_all OfKind Holds each (front ++ e ∷ []) back leads.0 after next allowed.1 leads.2 (All-tail OfKind e back kind)
      (each front between leads.0 e run allowed.0 leads.1 (All-head OfKind e back kind) holds)

  -- a beginning of a legal history is legal
  pub legal_front : (xs ys : List (Entry C R)) → Begins xs ys → IsLegal start steps may ys → IsLegal start steps may xs
  legal_front xs ys b l =
      let cut = run_cut xs b.rest l.0 (subst (λ (z : List (Entry C R)). IsRun start steps may z l.0) b.is l.1) in (cut.state, cut.run)
