-- A seat owes one job at most of a version and a receiver, so an offer or a give-back takes one job off.
use Rattle.std.proofs.Common.{◌≡◌, ℕ, Bool, true, false, cond, eqb, List, [], ◌∷◌, ◌++◌, filter, refl, sym, ap, ◌∙◌, subst, arith, ◌⊎◌, inl, inr}
use Rattle.std.specs.Prelude.{All, Contains, not, ◌&&◌, bytes_eq}
use Rattle.std.proofs.lemmas.List.Elements.{All-nil, All-head, All-tail, All-push, All-filter, All-contains, Contains-append_cases, Contains-push_cases}
use Rattle.std.proofs.lemmas.Bool.Decides.{Decides-eqb}
use Rattle.map_board.specs.Views.{Job}
use Rattle.map_board.specs.Seats.{is_of, without_job}
use Rattle.map_board.proofs.Naming.{same-name, itself}
use Rattle.receiver_workers.specs.Owing.{LosesLast}

-- no two jobs are of one version and one receiver
abbrev pub AreApart : List Job → Type 0
AreApart [] = Unit {0}
AreApart (job ∷ jobs) = All (λ other. is_of job.version job.receiver.name other ≡ false) jobs × AreApart jobs

both : (a b : Bool) → (a && b) ≡ true → (a ≡ true) × (b ≡ true)
both true true e = (refl, refl)
both true false e = absurd (cc)
both false b e = absurd (cc)

-- what is of a version and a receiver has them
pub is-of : (version : ℕ) (name : List ℕ) (job : Job) → is_of version name job ≡ true
    → (job.version ≡ version) × (job.receiver.name ≡ name)
is-of version name job e =
    let b = both (eqb job.version version) (bytes_eq job.receiver.name name) e in
    ((Decides-eqb job.version version).0 b.0, same-name job.receiver.name name b.1)

pub of-itself : (job : Job) → is_of job.version job.receiver.name job ≡ true
of-itself job = rw ((Decides-eqb job.version job.version).1 refl, itself job.receiver.name) refl

not-both : false ≡ true → ⊥
not-both h = cc

-- the other way round
pub of-each-other : (a b : Job) → is_of a.version a.receiver.name b ≡ false → is_of b.version b.receiver.name a ≡ false
of-each-other a b other = go (is_of b.version b.receiver.name a) refl where
  go : (test : Bool) → is_of b.version b.receiver.name a ≡ test → is_of b.version b.receiver.name a ≡ false
  go false e = e
  go true e =
      let same = is-of b.version b.receiver.name a e in
      let back : is_of a.version a.receiver.name b ≡ true =
      ap (λ v. is_of v a.receiver.name b) same.0 ∙ (ap (λ n. is_of b.version n b) same.1 ∙ of-itself b) in
      absurd (not-both (sym other ∙ back))

pub apart-push : (jobs : List Job) (job : Job) → AreApart jobs
    → All (λ other. is_of other.version other.receiver.name job ≡ false) jobs → AreApart (jobs ++ job ∷ [])
apart-push [] job apart away = (All-nil (λ other. is_of job.version job.receiver.name other ≡ false), tt)
apart-push (x ∷ xs) job apart away = (
  All-push (λ other. is_of x.version x.receiver.name other ≡ false) xs job apart.0
      (All-head (λ other. is_of other.version other.receiver.name job ≡ false) x xs away),
  apart-push xs job apart.1 (All-tail (λ other. is_of other.version other.receiver.name job ≡ false) x xs away),
)

apart-one : (p : Job → Bool) (x : Job) (xs : List Job) (test : Bool)
    → All (λ other. is_of x.version x.receiver.name other ≡ false) xs
    → AreApart (filter p xs) → AreApart (cond test (x ∷ filter p xs) (filter p xs))
apart-one p x xs true away rest = (All-filter p (λ other. is_of x.version x.receiver.name other ≡ false) xs away, rest)
apart-one p x xs false away rest = rest

pub apart-filter : (p : Job → Bool) (jobs : List Job) → AreApart jobs → AreApart (filter p jobs)
apart-filter p [] apart = tt
apart-filter p (x ∷ xs) apart = apart-one p x xs (p x) apart.0 (apart-filter p xs apart.1)

-- ---- one job is taken off

-- without a job of which there is none
without-none : (version : ℕ) (name : List ℕ) (jobs : List Job) → All (λ other. is_of version name other ≡ false) jobs
    → without_job version name jobs ≡ jobs
without-none version name [] none = refl
without-none version name (x ∷ xs) none =
    let here : is_of version name x ≡ false = All-head (λ other. is_of version name other ≡ false) x xs none in
    let later = without-none version name xs (All-tail (λ other. is_of version name other ≡ false) x xs none) in
    ap (λ b. cond (not b) (x ∷ without_job version name xs) (without_job version name xs)) here ∙ ap (λ l. x ∷ l) later

record Cut (jobs : List Job) (job : Job) : Type 0 where
  pub front : List Job
  pub back : List Job
  pub is : jobs ≡ front ++ job ∷ back
  pub none_behind : All (λ other. is_of job.version job.receiver.name other ≡ false) back
  pub left : without_job job.version job.receiver.name jobs ≡ front ++ back

module _ (x : Job) (xs : List Job) (job : Job) (apart : All (λ other. is_of x.version x.receiver.name other ≡ false) xs) where
  -- what is left of the first job and the others
  left-of : (test : Bool) → is_of job.version job.receiver.name x ≡ test
      → without_job job.version job.receiver.name (x ∷ xs)
      ≡ cond (not test) (x ∷ without_job job.version job.receiver.name xs) (without_job job.version job.receiver.name xs)
  left-of test is =
      ap (λ b. cond (not b) (x ∷ without_job job.version job.receiver.name xs)
      (without_job job.version job.receiver.name xs)) is

  cut-first : x ≡ job → Cut (x ∷ xs) job
  cut-first is =
      let away : All (λ other. is_of job.version job.receiver.name other ≡ false) xs =
      subst (λ (y : Job). All (λ other. is_of y.version y.receiver.name other ≡ false) xs) is apart in
      let here : is_of job.version job.receiver.name x ≡ true =
      subst (λ (y : Job). is_of job.version job.receiver.name y ≡ true) (sym is) (of-itself job) in
      record {
        front = [];
        back = xs;
        is = ap (λ y. y ∷ xs) is;
        none_behind = away;
        left = left-of true here ∙ without-none job.version job.receiver.name xs away;
      }

  cut-later : Contains xs job → Cut xs job → Cut (x ∷ xs) job
  cut-later later cut =
      let away : is_of job.version job.receiver.name x ≡ false =
      of-each-other x job (All-contains (λ other. is_of x.version x.receiver.name other ≡ false) xs job apart later) in
      record {
        front = x ∷ cut.front;
        back = cut.back;
        is = ap (λ l. x ∷ l) cut.is;
        none_behind = cut.none_behind;
        left = left-of false away ∙ ap (λ l. x ∷ l) cut.left;
      }

  cut-one : (Contains xs job → Cut xs job) → Contains (x ∷ []) job ⊎ Contains xs job → Cut (x ∷ xs) job
  cut-one rest (inl here) = first (Contains-push_cases [] x job here) where
    first : Contains [] job ⊎ (x ≡ job) → Cut (x ∷ xs) job
    first (inl none) = absurd (omega (arith, none.1))
    first (inr is) = cut-first is
  cut-one rest (inr later) = cut-later later (rest later)

cut-at : (jobs : List Job) (job : Job) → AreApart jobs → Contains jobs job → Cut jobs job
cut-at [] job apart there = absurd (omega (arith, there.1))
cut-at (x ∷ xs) job apart there =
    cut-one x xs job apart.0 (cut-at xs job apart.1) (Contains-append_cases (x ∷ []) xs job there)

none-fits : (P : Job → Type 0) (job : Job) → ((other : Job) → P other → is_of job.version job.receiver.name other ≡ true)
    → (back : List Job) → All (λ other. is_of job.version job.receiver.name other ≡ false) back
    → All (λ other. P other → ⊥) back
none-fits P job only back none k d below fits = not-both (sym (none k d below) ∙ only _ fits)

-- of jobs that are apart, one that fits goes off with the jobs of its version and receiver, where all that fit are of those
pub loses-last : (P : Job → Type 0) (jobs : List Job) (job : Job) → AreApart jobs → Contains jobs job → P job
    → ((other : Job) → P other → is_of job.version job.receiver.name other ≡ true)
    → LosesLast P jobs (without_job job.version job.receiver.name jobs)
loses-last P jobs job apart there fits only =
    let cut = cut-at jobs job apart there in record {
      front = cut.front;
      item = job;
      back = cut.back;
      before_is = cut.is;
      item_fits = fits;
      none_behind = none-fits P job only cut.back cut.none_behind;
      after_is = cut.left;
    }
