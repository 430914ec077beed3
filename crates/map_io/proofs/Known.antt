-- What is known of the bytes that a source has left and a sink has taken.
use Rattle.std.proofs.Common.{◌≡◌, ℕ, List, [], ◌++◌, take, drop, Option, Some, None, ap, sym, refl, ◌∙◌, append_assoc}
use Rattle.std.specs.Io.KnownBytes.{Appends, Consumes, Keeps, prepend_known}
use Rattle.std.proofs.lemmas.List.{take-append-drop, append-nil}
use Rattle.map_io.specs.Putting.{TakenBefore}

pub Appends-append : (a b c : Option (List ℕ)) (xs ys : List ℕ) → Appends a b xs → Appends b c ys → Appends a c (xs ++ ys)
Appends-append None b c xs ys first second = tt
Appends-append (Some given) None c xs ys first second = absurd first
Appends-append (Some given) (Some bs) None xs ys first second = absurd second
Appends-append (Some given) (Some bs) (Some cs) xs ys first second = second ∙ ap (λ bytes. bytes ++ ys) first ∙ append_assoc given xs ys

pub Appends-Keeps : (a b c : Option (List ℕ)) (xs : List ℕ) → Appends a b xs → Keeps b c → Appends a c xs
Appends-Keeps None b c xs first second = tt
Appends-Keeps (Some given) None c xs first second = absurd first
Appends-Keeps (Some given) (Some bs) None xs first second = absurd second
Appends-Keeps (Some given) (Some bs) (Some cs) xs first second = second ∙ first

-- nothing is taken at first
pub TakenBefore-none : (a : Option (List ℕ)) (piece : List ℕ) → TakenBefore a a piece piece
TakenBefore-none None piece = record { front = []; parts = refl; taken = tt }
TakenBefore-none (Some given) piece = record { front = []; parts = refl; taken = sym (append-nil given) }

-- and then more of the rest
pub TakenBefore-more : (a b c : Option (List ℕ)) (piece rest : List ℕ) (n : ℕ) → TakenBefore a b piece rest → Appends b c (take n rest) → TakenBefore a c piece (drop n rest)
TakenBefore-more a b c piece rest n so_far more = record {
  front = so_far.front ++ take n rest;
  parts = so_far.parts ∙ ap (λ bytes. so_far.front ++ bytes) (sym (take-append-drop n rest)) ∙ sym (append_assoc so_far.front (take n rest) (drop n rest));
  taken = Appends-append a b c so_far.front (take n rest) so_far.taken more;
}

pub Consumes-append : (a b c : Option (List ℕ)) (xs ys : List ℕ) → Consumes a b xs → Consumes b c ys → Consumes a c (xs ++ ys)
Consumes-append None b c xs ys first second = tt
Consumes-append (Some given) None c xs ys first second = absurd first
Consumes-append (Some given) (Some bs) None xs ys first second = absurd second
Consumes-append (Some given) (Some bs) (Some cs) xs ys first second = first ∙ ap (λ bytes. xs ++ bytes) second ∙ sym (append_assoc xs ys cs)

-- what is held comes off the front of what is known
pub Consumes-held : (held rest : List ℕ) (left : Option (List ℕ)) → Consumes (prepend_known (held ++ rest) left) (prepend_known rest left) held
Consumes-held held rest None = tt
Consumes-held held rest (Some left) = append_assoc held rest left

came_at_once : (came : List ℕ) (a b : Option (List ℕ)) → Consumes a b came → Consumes (prepend_known [] a) (prepend_known came b) []
came_at_once came None b taken = tt
came_at_once came (Some xs) None taken = absurd taken
came_at_once came (Some xs) (Some ys) taken = taken

-- what came is held by one who held nothing
pub Consumes-came : (none came : List ℕ) (a b : Option (List ℕ)) → none ≡ [] → Consumes a b came → Consumes (prepend_known none a) (prepend_known came b) []
Consumes-came none came a b empty taken = rw empty (came_at_once came a b taken)

dropped_at_once : (came : List ℕ) (a b : Option (List ℕ)) → Consumes a b came → Consumes (prepend_known [] a) (prepend_known [] b) came
dropped_at_once came None b taken = tt
dropped_at_once came (Some xs) None taken = absurd taken
dropped_at_once came (Some xs) (Some ys) taken = taken

-- what came was let go by one who holds nothing, before and after
pub Consumes-dropped : (none held came : List ℕ) (a b : Option (List ℕ)) → none ≡ [] → held ≡ [] → Consumes a b came → Consumes (prepend_known none a) (prepend_known held b) came
Consumes-dropped none held came a b empty empty_then taken = rw (empty, empty_then) (dropped_at_once came a b taken)

-- nothing came
pub Consumes-kept : (a b : Option (List ℕ)) → Keeps a b → Consumes a b []
Consumes-kept None b kept = tt
Consumes-kept (Some xs) None kept = absurd kept
Consumes-kept (Some xs) (Some ys) kept = sym kept
