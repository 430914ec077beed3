-- Rows that a sink has taken, one after another.
use Rattle.std.proofs.Common.{◌≡◌, ℕ, ◌+◌, ◌<◌, List, [], ◌∷◌, ◌++◌, length, take, drop, get_or, Option, flat_map, refl, sym, ap, ◌∙◌, append_assoc, add-one, drop-cons, suc, subst}
use Rattle.std.specs.Io.KnownBytes.{Appends}
use Rattle.std.proofs.KnownBytes.{Appends-nil, Appends-trans}
use Rattle.std.proofs.lemmas.List.{append-nil, take-append-drop}
use Rattle.std.proofs.lemmas.List.Concat.{flat_map-append, flat_map-cons}
use Rattle.std.specs.Prelude.{Result, Ok, Err}
use Rattle.map_io.specs.Putting.{TakesPart}
use Rattle.map_text.specs.declared.stopped.Stopped.{Stopped}
use Rattle.map_text.specs.declared.stopped.Stopped.TheVariants.{WriteFault, NoMemory}
use Rattle.map_text.specs.Taking.{joined, IsBegun, TakesFront, Takes}

pub joined-append : (a b : List (List ℕ)) → joined (a ++ b) ≡ joined a ++ joined b
joined-append a b = flat_map-append (λ row. row) a b

pub joined-one : (row : List ℕ) → joined (row ∷ []) ≡ row
joined-one row = flat_map-cons (λ (r : List ℕ). r) row [] ∙ append-nil row

begun-more : (stopped : Stopped) (part : List ℕ) (rest more : List (List ℕ)) → IsBegun stopped part rest → IsBegun stopped part (rest ++ more)
begun-more NoMemory part rest more begun = begun
begun-more WriteFault part [] more begun = absurd begun
begun-more WriteFault part (row ∷ rest) more begun = begun

-- rows, and then first rows of others
pub on-from : (before mid after : Option (List ℕ)) (whole front : List (List ℕ)) (part : List ℕ) → Appends before mid (joined whole) → Appends mid after (joined front ++ part)
    → Appends before after (joined (whole ++ front) ++ part)
on-from before mid after whole front part wrote took =
    subst (Appends before after) (sym (append_assoc (joined whole) (joined front) part) ∙ ap (λ t. t ++ part) (sym (joined-append whole front)))
    (Appends-trans before mid after (joined whole) (joined front ++ part) wrote took)

-- rows that were written, and a front of the next ones
pub front_after : (stopped : Stopped) (before mid after : Option (List ℕ)) (whole piece more rows : List (List ℕ)) → Appends before mid (joined whole) → TakesFront stopped mid after piece
    → rows ≡ whole ++ (piece ++ more) → TakesFront stopped before after rows
front_after stopped before mid after whole piece more rows wrote took is = record {
  front = whole ++ took.front;
  part = took.part;
  rest = took.rest ++ more;
  parts = is ∙ ap (λ p. whole ++ (p ++ more)) took.parts ∙ ap (λ q. whole ++ q) (append_assoc took.front took.rest more) ∙ sym (append_assoc whole took.front (took.rest ++ more));
  begun = begun-more stopped took.part took.rest more took.begun;
  taken = on-from before mid after whole took.front took.part wrote took.taken;
}

-- a front of the first ones
pub front_first : (stopped : Stopped) (before after : Option (List ℕ)) (piece more rows : List (List ℕ)) → TakesFront stopped before after piece → rows ≡ piece ++ more → TakesFront stopped before after rows
front_first stopped before after piece more rows took is = record {
  front = took.front;
  part = took.part;
  rest = took.rest ++ more;
  parts = is ∙ ap (λ p. p ++ more) took.parts ∙ append_assoc took.front took.rest more;
  begun = begun-more stopped took.part took.rest more took.begun;
  taken = took.taken;
}

-- rows that were written, and then what a call has taken of the last ones
pub takes_after : {X : Type 0} (result : Result X Stopped) (before mid after : Option (List ℕ)) (whole piece rows : List (List ℕ)) → Appends before mid (joined whole) → Takes result mid after piece
    → rows ≡ whole ++ piece → Takes result before after rows
takes_after (Ok x) before mid after whole piece rows wrote took is =
    subst (Appends before after) (sym (joined-append whole piece) ∙ ap joined (sym is)) (Appends-trans before mid after (joined whole) (joined piece) wrote took)
takes_after (Err stopped) before mid after whole piece rows wrote took is =
    front_after stopped before mid after whole piece [] rows wrote took (is ∙ ap (λ p. whole ++ p) (sym (append-nil piece)))

-- the rows that a list's items have: those before a place, those there, and those behind it
pub pieces_at : {X Y : Type 0} (f : X → List Y) (xs : List X) (i : ℕ) (x : X) → i < length xs → x ≡ get_or xs i x → flat_map f xs ≡ flat_map f (take i xs) ++ (f x ++ flat_map f (drop (i + 1) xs))
pieces_at f xs i x below is =
    ap (flat_map f) (sym (take-append-drop i xs)) ∙ flat_map-append f (take i xs) (drop i xs)
    ∙ ap (λ ys. flat_map f (take i xs) ++ flat_map f ys) (drop-cons xs i x below)
    ∙ ap (λ ys. flat_map f (take i xs) ++ ys) (flat_map-cons f (get_or xs i x) (drop (suc i) xs))
    ∙ ap (λ y. flat_map f (take i xs) ++ (f y ++ flat_map f (drop (suc i) xs))) (sym is)
    ∙ ap (λ j. flat_map f (take i xs) ++ (f x ++ flat_map f (drop j xs))) (sym (add-one i))

-- the same of the items themselves
pub rows_at : {X : Type 0} (xs : List X) (i : ℕ) (x : X) → i < length xs → x ≡ get_or xs i x → xs ≡ take i xs ++ (x ∷ [] ++ drop (i + 1) xs)
rows_at xs i x below is =
    sym (take-append-drop i xs)
    ∙ ap (λ ys. take i xs ++ ys) (drop-cons xs i x below)
    ∙ ap (λ y. take i xs ++ (y ∷ drop (suc i) xs)) (sym is)
    ∙ ap (λ j. take i xs ++ (x ∷ drop j xs)) (sym (add-one i))

-- a row that was written, and one that the sink failed at
pub row-whole : (before after : Option (List ℕ)) (row : List ℕ) → Appends before after row → Appends before after (joined (row ∷ []))
row-whole before after row wrote = subst (Appends before after) (sym (joined-one row)) wrote

pub row-begun : (before after : Option (List ℕ)) (row : List ℕ) → TakesPart before after row → TakesFront WriteFault before after (row ∷ [])
row-begun before after row took = record {
  front = [];
  part = took.front;
  rest = row ∷ [];
  parts = refl;
  begun = (took.rest, took.parts, took.missing);
  taken = took.taken;
}

-- nothing was written for want of memory
pub nothing-taken : (taken : Option (List ℕ)) (rows : List (List ℕ)) → Appends taken taken [] → TakesFront NoMemory taken taken rows
nothing-taken taken rows none = record { front = []; part = []; rest = rows; parts = refl; begun = refl; taken = none }

-- ---- what a `?` gives back

-- a front for another name of the same reason
pub front-as : (why same : Stopped) (before after : Option (List ℕ)) (rows : List (List ℕ)) → same ≡ why → TakesFront why before after rows → TakesFront same before after rows
front-as why same before after rows is took = subst (λ (s : Stopped). TakesFront s before after rows) (sym is) took

pub front-of : {X : Type 0} (result : Result X Stopped) (why same : Stopped) (before after : Option (List ℕ)) (rows : List (List ℕ)) → result ≡ Err same → same ≡ why → TakesFront why before after rows
    → Takes result before after rows
front-of {X} result why same before after rows is name took = subst (λ (r : Result X Stopped). Takes r before after rows) (sym is) (front-as why same before after rows name took)

-- nothing was written of these rows
pub none-of : {X : Type 0} (result : Result X Stopped) (same : Stopped) (taken : Option (List ℕ)) (rows : List (List ℕ)) → result ≡ Err same → same ≡ NoMemory → Takes result taken taken rows
none-of result same taken rows is name = front-of result NoMemory same taken taken rows is name (nothing-taken taken rows (Appends-nil taken))
