-- The lengths in foliage, added one after another.
use Rattle.std.proofs.Common.{◌≡◌, ℕ, ◌<◌, suc, refl, sym, ap, ◌∙◌, Bool, true, false, List, [], ◌∷◌, length, get_or, drop, drop-cons, add-one, ◌+◌, arith}
use Rattle.std.specs.Prelude.{Option, None, Some, map, if◌then◌else◌}
use Rattle.std.specs.List.{cons_option, filter_map}
use Rattle.std.specs.Option.{option_map, option_and_then}
use Rattle.fix_interval.specs.Interval.{Interval}
use Rattle.fix_interval.specs.Values.{add_of}
use Rattle.fix_interval.specs.Tree.{Tree, Known, Add, enc}
use Rattle.scene_geom.specs.declared.plan.Pt.{Pt}
use Rattle.scene_parts.specs.Parts.{Foliage}
use Rattle.path_shape.specs.declared.stretch.Stretch.{Stretch}
use Rattle.path_shape.specs.declared.path.Path.{Path}
use Rattle.path_shape.specs.Forms.{zero_form, plus_all}
use Rattle.path_shape.specs.Outlines.{meets_legs, length_on_legs}
use Rattle.path_shape.specs.Stretches.{length_on_path}
use Rattle.path_shape.proofs.Sums.{plus_all-known}
use Rattle.path_shape.proofs.Outlines.{same-length_on_legs}
use Rattle.term_foliage.specs.Foliage.{low_stretch, length_in, lengths_in, met_foliage, where_any}
use Rattle.term_foliage.specs.inner.Distances.{known_stretch, met_length, with_length, with_lengths}

pub drop-step : {X : Type 0} (x : X) (xs : List X) (i : ℕ) → x ≡ get_or xs i x → i < length xs → drop i xs ≡ x ∷ drop (i + 1) xs
drop-step {X = X} x xs i e h = rw (drop-cons xs i x, add-one) (ap (λ (y : X). y ∷ drop (suc i) xs) (sym e))

-- one foliage more
kept : (length_of : Foliage → Option Tree) (met : Bool) (one : Foliage) (rest : List Foliage)
    → filter_map length_of (if met then one ∷ rest else rest) ≡ cons_option (if met then length_of one else None) (filter_map length_of rest)
kept length_of true one rest = refl
kept length_of false one rest = refl

pub lengths-next : (path : Path) (one : Foliage) (rest : List Foliage) → lengths_in path (one ∷ rest) ≡ cons_option (met_length path one) (lengths_in path rest)
lengths-next path one rest = kept (length_in path) (meets_legs path.legs path.s path.r one.points) one (met_foliage path rest)

with-option : (length : Option Tree) (lengths : List Tree) (total : Option Interval)
    → with_lengths total (map enc (cons_option length lengths)) ≡ with_lengths (with_length total (option_map enc length)) (map enc lengths)
with-option None lengths total = refl
with-option (Some length) lengths total = refl

pub lengths-step : (path : Path) (foliage : List Foliage) (one : Foliage) (rest : List Foliage) (total total' all : Option Interval) → foliage ≡ one ∷ rest
    → total' ≡ with_length total (option_map enc (met_length path one)) → with_lengths total (map enc (lengths_in path foliage)) ≡ all
    → with_lengths total' (map enc (lengths_in path rest)) ≡ all
lengths-step path foliage one rest total total' all e f g =
    ap (λ (t : Option Interval). with_lengths t (map enc (lengths_in path rest))) f
    ∙ sym (with-option (met_length path one) (lengths_in path rest) total)
    ∙ ap (λ (l : List Tree). with_lengths total (map enc l)) (sym (lengths-next path one rest))
    ∙ ap (λ (l : List Foliage). with_lengths total (map enc (lengths_in path l))) (sym e)
    ∙ g

-- the whole sum
from-some : (lengths : List Tree) (total : Interval) → with_lengths (Some total) (map enc lengths) ≡ Some (enc (plus_all (Known total) lengths))
from-some [] total = refl
from-some (length ∷ lengths) total =
    from-some lengths (add_of total (enc length)) ∙ ap Some (sym (plus_all-known (Add (Known total) length) lengths))

pub from-none : (lengths : List Tree) → with_lengths None (map enc lengths) ≡ where_any lengths (enc (plus_all zero_form lengths))
from-none [] = refl
from-none (one ∷ lengths) = from-some lengths (add_of (enc zero_form) (enc one)) ∙ ap Some (sym (plus_all-known (Add zero_form one) lengths))

-- the length in one foliage
length-low : (path : Path) (points : List Pt) (met : Bool) (low : Option (Tree × Tree)) → meets_legs path.legs path.s path.r points ≡ met
    → option_and_then (length_on_path points path) (option_map known_stretch low)
    ≡ option_map enc (if met then option_map (λ stretch. length_on_legs path.legs path.s path.r points stretch.0 stretch.1) low else None)
length-low path points true None is = refl
length-low path points false None is = refl
length-low path points true (Some stretch) is =
    rw is
    (ap Some (same-length_on_legs path.legs path.s path.r points (Known (enc stretch.0)) stretch.0 (Known (enc stretch.1)) stretch.1 refl refl))
length-low path points false (Some stretch) is = rw is refl

pub length-is : (path : Path) (points : List Pt) (h : ℕ) (stretch : Option Stretch) → stretch ≡ option_map known_stretch (low_stretch h path.hs path.hr)
    → option_and_then (length_on_path points path) stretch
    ≡ option_map enc (if meets_legs path.legs path.s path.r points then option_map (λ stretch. length_on_legs path.legs path.s path.r points stretch.0 stretch.1) (low_stretch h path.hs path.hr) else None)
length-is path points h stretch is =
    ap (option_and_then (length_on_path points path)) is
    ∙ length-low path points (meets_legs path.legs path.s path.r points) (low_stretch h path.hs path.hr) refl

-- ---- a value where there is any item

pub any-map : {A B C : Type 0} (f : B → C) (items : List A) (value : B) → option_map f (where_any items value) ≡ where_any items (f value)
any-map f [] value = refl
any-map f (item ∷ items) value = refl

pub any-some : {A B : Type 0} (items : List A) (value found : B) → Some found ≡ where_any items value → found ≡ value
any-some [] value found e = absurd (grind arith)
any-some (item ∷ items) value found e = cc

pub any-none : {A B : Type 0} (items : List A) (value : B) → None ≡ where_any items value → items ≡ []
any-none [] value e = refl
any-none (item ∷ items) value e = absurd (grind arith)
