-- What seats owe as a history grows.
use Rattle.std.proofs.Common.{◌≡◌, ℕ, suc, Bool, true, false, cond, eqb, List, [], ◌∷◌, ◌++◌, filter, refl, sym, ap, ◌∙◌, subst, arith, ◌⊎◌, inl, inr}
use Rattle.std.specs.Prelude.{Contains}
use Rattle.std.proofs.lemmas.List.{append-nil}
use Rattle.std.proofs.lemmas.List.Elements.{filter-append, Contains-append_cases, Contains-append_left, Contains-push_cases}
use Rattle.turn_lock.specs.declared.entry.Entry.{Entry}
use Rattle.turn_lock.specs.History.{entries_of}
use Rattle.map_board.specs.declared.calls.BoardCall.{BoardCall}
use Rattle.map_board.specs.declared.calls.BoardReply.{BoardReply}
use Rattle.map_board.specs.Views.{Job}
use Rattle.map_board.specs.Seats.{Entries, owed_after, owed_from, owed}

-- ---- elements of filtered lists

contains-nil : {X : Type 0} (x : X) → Contains [] x → ⊥
contains-nil x c = omega (arith, c.1)

kept-one : {X : Type 0} (p : X → Bool) (y x : X) (rest : List X) (test : Bool) → p y ≡ test
    → (Contains rest x → p x ≡ true) → Contains (cond test (y ∷ rest) rest) x → p x ≡ true
kept-one p y x rest true e later c = go (Contains-append_cases (y ∷ []) rest x c) where
  go : Contains (y ∷ []) x ⊎ Contains rest x → p x ≡ true
  go (inl here) = one (Contains-push_cases [] y x here) where
    one : Contains [] x ⊎ (y ≡ x) → p x ≡ true
    one (inl none) = absurd (contains-nil x none)
    one (inr is) = ap p (sym is) ∙ e
  go (inr there) = later there
kept-one p y x rest false e later c = later c

-- what passed a filter passes its test
pub passed : {X : Type 0} (p : X → Bool) (xs : List X) (x : X) → Contains (filter p xs) x → p x ≡ true
passed p [] x c = absurd (contains-nil x c)
passed p (y ∷ ys) x c = kept-one p y x (filter p ys) (p y) refl (passed p ys x) c

from-one : {X : Type 0} (y x : X) (ys rest : List X) (test : Bool) → (Contains rest x → Contains ys x)
    → Contains (cond test (y ∷ rest) rest) x → Contains (y ∷ ys) x
from-one y x ys rest true later c = go (Contains-append_cases (y ∷ []) rest x c) where
  go : Contains (y ∷ []) x ⊎ Contains rest x → Contains (y ∷ ys) x
  go (inl here) = Contains-append_left (y ∷ []) ys x here
  go (inr there) = let k = later there in (suc k.0, omega (arith, k.1), k.2)
from-one y x ys rest false later c = let k = later c in (suc k.0, omega (arith, k.1), k.2)

-- and stands in the list
pub from-filter : {X : Type 0} (p : X → Bool) (xs : List X) (x : X) → Contains (filter p xs) x → Contains xs x
from-filter p [] x c = c
from-filter p (y ∷ ys) x c = from-one y x ys (filter p ys) (p y) (from-filter p ys x) c

-- ---- one entry more

owed-snoc : (jobs : List Job) (mine : Entries) (e : Entry BoardCall BoardReply)
    → owed_from jobs (mine ++ e ∷ []) ≡ owed_after (owed_from jobs mine) e.call e.reply
owed-snoc jobs [] e = refl
owed-snoc jobs (x ∷ xs) e = owed-snoc (owed_after jobs x.call x.reply) xs e

owed-one : (before : Entries) (e : Entry BoardCall BoardReply) (own : Bool)
    → owed (before ++ cond own (e ∷ []) []) ≡ cond own (owed_after (owed before) e.call e.reply) (owed before)
owed-one before e true = owed-snoc [] before e
owed-one before e false = ap owed (append-nil before)

-- what a seat owes after one more entry: of its own, or of another's
pub owed-more : (history : Entries) (e : Entry BoardCall BoardReply) (m : ℕ)
    → owed (entries_of m (history ++ e ∷ []))
    ≡ cond (eqb e.number m) (owed_after (owed (entries_of m history)) e.call e.reply) (owed (entries_of m history))
owed-more history e m =
    ap owed (filter-append (λ x. eqb x.number m) history (e ∷ [])) ∙ owed-one (entries_of m history) e (eqb e.number m)

-- an entry that adds no job
abbrev pub AddsNone : BoardCall → BoardReply → Type 0
AddsNone call reply = (jobs : List Job) (job : Job) → Contains (owed_after jobs call reply) job → Contains jobs job

fewer-now : (jobs after : List Job) (job : Job) (own : Bool) → (Contains after job → Contains jobs job)
    → Contains (cond own after jobs) job → Contains jobs job
fewer-now jobs after job true fewer c = fewer c
fewer-now jobs after job false fewer c = c

pub fewer-owed : (history : Entries) (e : Entry BoardCall BoardReply) → AddsNone e.call e.reply → (m : ℕ) (job : Job)
    → Contains (owed (entries_of m (history ++ e ∷ []))) job → Contains (owed (entries_of m history)) job
fewer-owed history e none m job c =
    fewer-now (owed (entries_of m history)) (owed_after (owed (entries_of m history)) e.call e.reply) job (eqb e.number m)
    (none (owed (entries_of m history)) job) (subst (λ jobs. Contains jobs job) (owed-more history e m) c)
