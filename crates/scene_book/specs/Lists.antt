-- Lists of named things, in the order of insertion.
use Rattle.std.specs.Prelude.{◌≡◌, ℕ, ◌+◌, false, bytes_eq, List, [], ◌∷◌, Option, if◌then◌else◌, find}
use Rattle.std.specs.List.{position}

-- the first thing of a name
abbrev pub named : {A : Type 0} → (A → List ℕ) → List ℕ → List A → Option A
named name_of name things = find (λ thing. bytes_eq name (name_of thing)) things

-- the place of the first thing of a name
abbrev pub place_of : {A : Type 0} → (A → List ℕ) → List ℕ → List A → Option ℕ
place_of name_of name things = position (λ thing. bytes_eq name (name_of thing)) things

-- a thing put in: in the place of the one of its name, else at the end
abbrev pub put_in : {A : Type 0} → (A → List ℕ) → A → List A → List A
put_in name_of new [] = new ∷ []
put_in name_of new (thing ∷ things) =
    if bytes_eq (name_of new) (name_of thing) then new ∷ things else thing ∷ put_in name_of new things

-- the first thing of a name taken out; the others close up
abbrev pub take_out : {A : Type 0} → (A → List ℕ) → List ℕ → List A → List A
take_out name_of name [] = []
take_out name_of name (thing ∷ things) =
    if bytes_eq name (name_of thing) then things else thing ∷ take_out name_of name things

-- things put in one after another
abbrev pub put_all : {A : Type 0} → (A → List ℕ) → List A → List A → List A
put_all name_of [] things = things
put_all name_of (new ∷ news) things = put_all name_of news (put_in name_of new things)

-- the sum of a number of each thing
abbrev pub total : {A : Type 0} → (A → ℕ) → List A → ℕ
total f [] = 0
total f (thing ∷ things) = f thing + total f things

-- no thing bears this name
abbrev pub NoneNamed : {A : Type 0} → (A → List ℕ) → List ℕ → List A → Type 0
NoneNamed name_of name [] = Unit {0}
NoneNamed name_of name (thing ∷ things) = (bytes_eq name (name_of thing) ≡ false) × NoneNamed name_of name things

-- no two things bear one name
abbrev pub AreApart : {A : Type 0} → (A → List ℕ) → List A → Type 0
AreApart name_of [] = Unit {0}
AreApart name_of (thing ∷ things) = NoneNamed name_of (name_of thing) things × AreApart name_of things
