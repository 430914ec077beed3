-- Scenes of the same parts answer an edit alike.
use Rattle.std.proofs.Common.{◌≡◌, ℕ, ◌*◌, refl, sym, ap, ◌∙◌, cond, List, [], ◌∷◌, length}
use Rattle.std.specs.Prelude.{bytes_eq, Option, Some, None, option_map, Result, Ok, Err}
use Rattle.scene_parts.specs.Parts.{Receiver, globals_with, sides_of}
use Rattle.scene_parts.specs.Answers.{◌>>◌}
use Rattle.scene_parts.specs.declared.parts.Part.{Part}
use Rattle.scene_parts.specs.declared.parts.Part.TheVariants as parts
use Rattle.scene_parts.specs.declared.parts.Class.{Class}
use Rattle.scene_parts.specs.declared.parts.Class.TheVariants as classes
use Rattle.scene_book.specs.declared.edits.Edit.TheVariants as edits
use Rattle.scene_book.specs.declared.edits.EditFault.{EditFault}
use Rattle.scene_book.specs.Book.{most_receivers, Book, NamesAreApart, at_most}
use Rattle.scene_book.specs.Lists.{named, put_in, take_out, put_all, AreApart}
use Rattle.scene_book.specs.Grid.{receivers_of}
use Rattle.scene_book.specs.Applying.{apply_of, put_of, put_where_room, remove_of, grid_of, own_class, holder, in_limits, all_own, taken, part_named, name_of, class_of, with_part, without, replaced}
use Rattle.scene_book.specs.Orders.{Shuffled, SameParts}
use Rattle.scene_undo.specs.Laws.{Agree, EditsAgree}
use Rattle.scene_undo.proofs.Maps.{named-put, named-take, apart-put, apart-take, shuffled-alike, alike-shuffled, shuffled-length, shuffled-total}
use Rattle.scene_undo.proofs.Spaces.{first, SameFound, named-same, same-found}
use Rattle.scene_undo.proofs.Accepting.{left, puts_in}

-- ---- lists

module _ {A : Type 0} (name_of : A → List ℕ) (xs ys : List A) (h : Shuffled xs ys) (apart : AreApart name_of xs) where
  -- a put and a removal of both
  pub put-shuffled : (new : A) → Shuffled (put_in name_of new xs) (put_in name_of new ys)
  put-shuffled new =
      let alike = shuffled-alike name_of xs ys h apart in
      alike-shuffled name_of (put_in name_of new xs) (put_in name_of new ys) (apart-put name_of new xs apart) (apart-put name_of new ys alike.0)
      (λ name.
      named-put name_of name new xs
      ∙ ap (λ o. cond (bytes_eq name (name_of new)) (Some new) o) (alike.1 name)
      ∙ sym (named-put name_of name new ys))

  pub take-shuffled : (gone : List ℕ) → Shuffled (take_out name_of gone xs) (take_out name_of gone ys)
  take-shuffled gone =
      let alike = shuffled-alike name_of xs ys h apart in
      alike-shuffled name_of (take_out name_of gone xs) (take_out name_of gone ys) (apart-take name_of gone xs apart) (apart-take name_of gone ys alike.0)
      (λ name.
      named-take name_of name gone xs apart
      ∙ ap (λ o. cond (bytes_eq name gone) None o) (alike.1 name)
      ∙ sym (named-take name_of name gone ys alike.0))

puts-shuffled : {A : Type 0} (name_of : A → List ℕ) (news xs ys : List A) → Shuffled xs ys → AreApart name_of xs
    → Shuffled (put_all name_of news xs) (put_all name_of news ys)
puts-shuffled name_of [] xs ys h apart = h
puts-shuffled name_of (new ∷ news) xs ys h apart =
    puts-shuffled name_of news (put_in name_of new xs) (put_in name_of new ys)
    (put-shuffled name_of xs ys h apart new) (apart-put name_of new xs apart)

-- ---- scenes

parts-put : (part : Part) (a b : Book) → SameParts a b → NamesAreApart a → SameParts (with_part part a) (with_part part b)
parts-put (parts.Source s) a b h apart = search put-shuffled
parts-put part a b h apart = search put-shuffled

parts-take : (gone : List ℕ) (part : Part) (a b : Book) → SameParts a b → NamesAreApart a
    → SameParts (without gone part a) (without gone part b)
parts-take gone (parts.Source s) a b h apart = search take-shuffled
parts-take gone part a b h apart = search take-shuffled

-- no order changes what has room
room-same : {A : Type 0} (class : Class) (most : ℕ) (xs ys : List A) → Shuffled xs ys
    → at_most class most (length xs) ≡ at_most class most (length ys)
room-same class most xs ys h = ap (at_most class most) (shuffled-length xs ys h)

limits-same : (part : Part) (a b : Book) → SameParts a b → in_limits part a ≡ in_limits part b
limits-same (parts.Obstacle o) a b h =
    rw (shuffled-length a.obstacles b.obstacles h.lists.obstacles, shuffled-total (λ x. length (sides_of x)) a.obstacles b.obstacles h.lists.obstacles) refl
limits-same part a b h = search room-same

found-in-same : {A : Type 0} (kind : A → Part) (name_of : A → List ℕ) (name : List ℕ) (xs ys : List A) → Shuffled xs ys → AreApart name_of xs
    → option_map kind (named name_of name xs) ≡ option_map kind (named name_of name ys)
found-in-same kind name_of name xs ys h apart = ap (option_map kind) (named-same name_of name xs ys h apart)

replaced-same : (part : Part) (a b : Book) → SameParts a b → NamesAreApart a → replaced part a ≡ replaced part b
replaced-same (parts.Source s) a b h apart = search found-in-same
replaced-same part a b h apart = search found-in-same

found-alike : (a b : Book) → SameParts a b → NamesAreApart a → SameFound a b
found-alike a b h apart name = ap first ((same-found a b h apart).1 name)

all_own-same : (a b : Book) → SameFound a b → (news : List Receiver) → all_own a news ≡ all_own b news
all_own-same a b found [] = refl
all_own-same a b found (r ∷ rest) = rw (found r.name, all_own-same a b found rest) refl

-- ---- answers

-- behind tests that answer alike
agree-behind : (r s : Result (Unit {0}) EditFault) (x y : Result (Book × Option Part) EditFault) → r ≡ s → Agree x y → Agree (r >> x) (s >> y)
agree-behind (Ok u) (Ok v) x y e h = h
agree-behind (Ok u) (Err fault) x y e h = cc
agree-behind (Err fault) (Ok u) x y e h = cc
agree-behind (Err fault) (Err other) x y e h = cc

agree-taken : (name : List ℕ) (a b : Book) → SameParts a b → NamesAreApart a → (found other : Option Part) → found ≡ other
    → Agree (taken name found a) (taken name other b)
agree-taken name a b h apart None None e = refl
agree-taken name a b h apart None (Some part) e = cc
agree-taken name a b h apart (Some part) None e = cc
agree-taken name a b h apart (Some part) (Some other) e =
    let is : part ≡ other = cc in
    (rw (← is) (parts-take name part a b h apart), e)

pub edits-agree : EditsAgree
unfolding apply_of put_of put_where_room remove_of grid_of
edits-agree (edits.Put part) a b apart h =
    let after = parts-put part a b h apart in
    agree-behind (own_class (name_of part) (class_of part) (holder a (name_of part))) (own_class (name_of part) (class_of part) (holder b (name_of part)))
    (in_limits part (with_part part a) >> left (with_part part a) (replaced part a))
    (in_limits part (with_part part b) >> left (with_part part b) (replaced part b))
    (ap (λ o. own_class (name_of part) (class_of part) (option_map class_of o)) (found-alike a b h apart (name_of part)))
    (agree-behind (in_limits part (with_part part a)) (in_limits part (with_part part b))
    (left (with_part part a) (replaced part a)) (left (with_part part b) (replaced part b))
    (limits-same part (with_part part a) (with_part part b) after)
    (after, replaced-same part a b h apart))
edits-agree (edits.Remove name) a b apart h =
    agree-taken name a b h apart (part_named a name) (part_named b name) (found-alike a b h apart name)
edits-agree (edits.Grid grid) a b apart h =
    let news = receivers_of grid in
    let after = puts-shuffled (λ r. r.name) news a.receivers b.receivers h.lists.receivers apart.receivers in
    let count = at_most classes.Receiver most_receivers (grid.columns * grid.rows) in
    let room-a = at_most classes.Receiver most_receivers (length (puts_in news a).receivers) in
    let room-b = at_most classes.Receiver most_receivers (length (puts_in news b).receivers) in
    agree-behind count count
    (all_own a news >> (room-a >> left (puts_in news a) None))
    (all_own b news >> (room-b >> left (puts_in news b) None)) refl
    (agree-behind (all_own a news) (all_own b news)
    (room-a >> left (puts_in news a) None)
    (room-b >> left (puts_in news b) None)
    (all_own-same a b (found-alike a b h apart) news)
    (agree-behind room-a room-b (left (puts_in news a) None) (left (puts_in news b) None)
    (ap (at_most classes.Receiver most_receivers) (shuffled-length (puts_in news a).receivers (puts_in news b).receivers after))
    (search (after, h), refl)))
edits-agree (edits.Set setting) a b apart h =
    (search (h, ap (globals_with setting) h.globals), refl)
