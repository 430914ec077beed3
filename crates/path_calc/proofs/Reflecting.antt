-- Paths by way of walls that are found one after another, and what is known of each.
use Rattle.std.proofs.Common.{◌≡◌, ℕ, zero, suc, ◌^◌, pos, ◌≤ℤ◌, subst, ◌+◌, ◌≤◌, ◌<◌, List, [], ◌∷◌, ◌++◌, length, drop, get_or, map, filter, refl, sym, ap, ◌∙◌, arith, append_assoc, append-nil}
use Rattle.std.specs.Prelude.{Option, Some, None, Bool, true, false, ◌&&◌, IsTrue, All, flat_map, slice_get}
use Rattle.std.specs.List.{filter_map, list_any}
use Rattle.std.specs.Option.{option_to_list, option_and_then}
use Rattle.std.proofs.lemmas.Int.{ints}
use Rattle.std.proofs.lemmas.List.{drop_more, map-append, length-append, length-map}
use Rattle.std.proofs.lemmas.List.Elements.{All-nil, All-append, All-cons}
use Rattle.std.proofs.lemmas.Option.{slice_get_within, get_or_from_slice_get}
use Rattle.fix_interval.specs.Interval.{Interval}
use Rattle.fix_interval.specs.declared.truth.Truth.{Truth}
use Rattle.fix_interval.specs.declared.truth.Truth.TheVariants.{Unsure}
use Rattle.fix_interval.specs.Tree.{Known, enc}
use Rattle.scene_geom.specs.declared.band.Band.{Band}
use Rattle.scene_geom.specs.Bands.{all_bands, place_of}
use Rattle.scene_geom.specs.declared.plan.Pt.{Pt}
use Rattle.scene_geom.specs.declared.plan.Side.{Side}
use Rattle.scene_geom.specs.Reflection.{off_wall, along_wall, squared_length, unfolded}
use Rattle.scene_geom.proofs.Walls.{over-n}
use Rattle.scene_geom.specs.declared.reflection.Reflection.{Reflection}
use Rattle.scene_parts.specs.Parts.{Obstacle, Globals, sides_of, is_mirror}
use Rattle.scene_book.specs.Book.{Book, side_total}
use Rattle.scene_parts.specs.declared.screening.edge.Edge.{Edge}
use Rattle.scene_parts.specs.declared.screening.ends.Ends.{Ends}
use Rattle.scene_parts.specs.declared.screening.crossing.Crossing.{Crossing}
use Rattle.scene_parts.specs.Crossings.{is_crossing_in}
use Rattle.image_source.specs.declared.leg.Leg.{Leg}
use Rattle.image_source.specs.Mirrors.{IsMirror, has_mirror, mirror_of}
use Rattle.image_source.specs.Facing.{FacingSide, may_mirror, facing_sides}
use Rattle.image_source.proofs.Listing.{found_of, listed-at, listed-give-all, unfaced, unmirrored}
use Rattle.image_source.specs.LegCuts.{edge_on, edges_in, crossing_on, before_all, crossings_along, crossings_from, leg_crossings_of, is_leg_crossing_in}
use Rattle.image_source.specs.declared.leg.Leg.TheVariants.{First, Second}
use Rattle.image_source.proofs.Edges.{leg-crossings-are-edges}
use Rattle.image_source.proofs.Fitting.{leg-edges-fit}
use Rattle.image_source.specs.Laws.{FitsLegEdge}
use Rattle.term_barrier.specs.Edges.{FitsEdge}
use Rattle.path_calc.specs.declared.direct.propagation.Propagation.{Propagation}
use Rattle.path_calc.specs.declared.reflected.Echo.TheVariants.{Audible}
use Rattle.path_calc.specs.declared.reflected.Sound.{Sound}
use Rattle.path_calc.specs.inner.Propagations.{Reflected}
use Rattle.path_calc.specs.Prepared.{PreparedSource}
use Rattle.path_calc.specs.inner.Prepared.{has_power}
use Rattle.path_calc.specs.inner.Losses.{losses_along}
use Rattle.path_calc.specs.declared.bundles.segments.Seg.TheVariants.{Legs}
use Rattle.path_calc.specs.Lengths.{reflected_distance}
use Rattle.path_calc.specs.Contributions.{reflection_level}
use Rattle.path_calc.specs.inner.Ranges.{IsPathSquare}
use Rattle.path_calc.specs.Laws.{ReflectedEdgesAreCuts}
use Rattle.path_calc.specs.ReflectedPaths.{ReflectedPath, path_along, along_legs, reflected_in, reflected_by, reflected_paths}
use Rattle.path_calc.specs.inner.Hearing.{edges_among, where_asked, bar_over, bars_over, grounds_along, propagation_over, propagation_along, is_asked, crossings_on, truth_in, may_count, may_be_heard, echo_of, counts_on, sound_along, reflected_of}
use Rattle.path_calc.proofs.Eight.{at-place, map-same}
use Rattle.path_calc.proofs.Zones.{same-ground_along, same-losses}

-- ---- crossings of legs

-- the edges that count in a band, whatever leg each is on
among-legs : (band : Band) (legs : List (Leg × Crossing)) → edges_among band (crossings_on legs) ≡ map (λ (c : Leg × Crossing). c.1.edge) (filter (is_leg_crossing_in band) legs)
among-legs band [] = refl
among-legs band (c ∷ legs) = by (is_crossing_in band c.1) refl (among-legs band legs) where
  by : (test : Bool) → is_crossing_in band c.1 ≡ test → edges_among band (crossings_on legs) ≡ map (λ (c : Leg × Crossing). c.1.edge) (filter (is_leg_crossing_in band) legs)
      → edges_among band (crossings_on (c ∷ legs)) ≡ map (λ (c : Leg × Crossing). c.1.edge) (filter (is_leg_crossing_in band) (c ∷ legs))
  by true is rest = rw is (ap (λ edges. c.1.edge ∷ edges) rest)
  by false is rest = rw is rest

-- the edges of the crossings of both legs keep to the bounds of edges
abbrev Fits : Crossing → Type 0
Fits crossing = FitsEdge crossing.edge

fits-edge : (edge : Edge) → FitsLegEdge edge → FitsEdge edge
fits-edge edge h = record { within = h.within; below = h.below; direction = h.direction }

leg-edge-fits : (leg : Leg) (path : Reflection) (ends : Ends) (h : ℕ) (side : Side) (edge : Edge) → IsMirror path → edge_on leg path ends h side ≡ Some edge → FitsEdge edge
leg-edge-fits leg path ends h side edge is e = fits-edge edge (rw e at (leg-edges-fit leg path ends h side is))

along-fit : (leg : Leg) (path : Reflection) (ends : Ends) (i k : ℕ) (o : Obstacle) (sides : List Side) → IsMirror path → All Fits (crossings_on (crossings_along leg path ends i k o sides))
along-fit leg path ends i k o [] is = All-nil Fits
along-fit leg path ends i k o (side ∷ sides) is = by (edge_on leg path ends o.h side) refl (along-fit leg path ends i (suc k) o sides is) where
  by : (edge : Option Edge) → edge_on leg path ends o.h side ≡ edge → All Fits (crossings_on (crossings_along leg path ends i (suc k) o sides))
      → All Fits (crossings_on (before_all (crossing_on leg path ends i k o side) (crossings_along leg path ends i (suc k) o sides)))
  by None e rest = rw e rest
  by (Some edge) e rest = rw e (All-cons Fits _ (crossings_on (crossings_along leg path ends i (suc k) o sides)) (leg-edge-fits leg path ends o.h side edge is e) rest)

both-fit : (xs ys : List (Leg × Crossing)) → All Fits (crossings_on xs) → All Fits (crossings_on ys) → All Fits (crossings_on (xs ++ ys))
both-fit xs ys h k = rw (map-append (λ (c : Leg × Crossing). c.1) xs ys) (All-append Fits (crossings_on xs) (crossings_on ys) h k)

from-fit : (leg : Leg) (path : Reflection) (ends : Ends) (i : ℕ) (obstacles : List Obstacle) → IsMirror path → All Fits (crossings_on (crossings_from leg path ends i obstacles))
from-fit leg path ends i [] is = All-nil Fits
from-fit leg path ends i (o ∷ obstacles) is =
    both-fit (crossings_along leg path ends i zero o (sides_of o)) (crossings_from leg path ends (suc i) obstacles) (along-fit leg path ends i zero o (sides_of o) is) (from-fit leg path ends (suc i) obstacles is)

pub leg-crossings-fit : (path : Reflection) (ends : Ends) (obstacles : List Obstacle) → IsMirror path → All (λ (crossing : Crossing). FitsEdge crossing.edge) (crossings_on (leg_crossings_of path ends obstacles))
leg-crossings-fit path ends obstacles is =
    both-fit (crossings_from First path ends zero obstacles) (crossings_from Second path ends zero obstacles) (from-fit First path ends zero obstacles is) (from-fit Second path ends zero obstacles is)

-- the edges that are read are those of the cuts
pub reflected-edges-are-cuts : ReflectedEdgesAreCuts
reflected-edges-are-cuts book ends o side laid band = record {
  crossings = filter (is_leg_crossing_in band) (leg_crossings_of laid ends book.obstacles);
  edges = at-place (λ band. edges_in band laid ends book.obstacles) [] band ∙ sym (leg-crossings-are-edges band laid ends book.obstacles);
  cuts = refl;
}

-- ---- one path

-- what the square of the plan length keeps
pub square-kept : (side : Side) (s r : Pt) (m : Reflection) → m ≡ unfolded side s r → IsMirror m → IsPathSquare m.square
square-kept side s r m is kept = record {
  from_zero = subst (λ (q : Reflection). pos 0 ≤ℤ q.square.n) (sym is) (rw (over-n (pos ((off_wall side s + off_wall side r) ^ 2 + along_wall side s r ^ 2)) (squared_length side)) (omega (arith, ints)));
  length = kept.fits.square;
  wall = kept.fits.wall;
}

-- a wall that reflects is a mirror
pub strong-mirror : (rho : ℕ) → 0 < rho → IsTrue (is_mirror rho) → 200 < rho
strong-mirror rho some mirror = grind arith

-- ---- the bands that are asked for

-- a wall counts in a band as its length tells
counted : (counts : List Truth) (side : Side) (h : ℕ) (laid : Reflection) (d : Interval) (band : Band) → counts ≡ map (counts_on side h laid d) all_bands → truth_in counts band ≡ counts_on side h laid d band
counted counts side h laid d band is = ap (λ (ts : List Truth). truth_in ts band) is ∙ at-place (counts_on side h laid d) Unsure band

heard-there : (source : PreparedSource) (counts : List Truth) (side : Side) (h : ℕ) (laid : Reflection) (d : Interval) (band : Band) → counts ≡ map (counts_on side h laid d) all_bands
    → may_be_heard source (truth_in counts) band ≡ may_be_heard source (counts_on side h laid d) band
heard-there source counts side h laid d band is = ap (λ (truth : Truth). has_power source band && may_count truth) (counted counts side h laid d band is)

-- the bands that are asked for are those in which something may be heard
asked-are : (asked : List Bool) (source : PreparedSource) (counts : List Truth) (side : Side) (h : ℕ) (laid : Reflection) (d : Interval) → asked ≡ map (may_be_heard source (truth_in counts)) all_bands
    → counts ≡ map (counts_on side h laid d) all_bands → asked ≡ map (may_be_heard source (counts_on side h laid d)) all_bands
asked-are asked source counts side h laid d is counts-are =
    is ∙ map-same (may_be_heard source (truth_in counts)) (may_be_heard source (counts_on side h laid d)) (λ (band : Band). heard-there source counts side h laid d band counts-are) all_bands

any-of : (asked : List Bool) (f : Band → Bool) → asked ≡ map f all_bands → list_any (λ (b : Bool). b) asked ≡ list_any f all_bands
any-of asked f is = ap (λ (bs : List Bool). list_any (λ (b : Bool). b) bs) is

-- what the code knows of a path by way of a wall that may count is what is read along it
pub by-way-is : (m : Reflected) (sound : Sound) (book : Book) (source : PreparedSource) (ends : Ends) (o : Obstacle) (side : Side) (laid : Reflection) (d : Interval) (asked : List Bool)
    → d ≡ enc (reflected_distance laid.square ends.hs ends.hr)
    → sound.path ≡ propagation_along book (path_along ends laid) laid.square d (crossings_on (leg_crossings_of laid ends book.obstacles)) (is_asked asked)
    → sound.level ≡ enc (reflection_level o.rho)
    → sound.counts ≡ map (counts_on side o.h laid d) all_bands
    → asked ≡ map (may_be_heard source (truth_in sound.counts)) all_bands
    → list_any (λ (b : Bool). b) asked ≡ true
    → m ≡ record { wall = Legs side ends.s ends.r; echo = Audible sound }
    → m ≡ reflected_of book.globals source ends (along_legs book ends o side laid)
by-way-is m sound book source ends o side laid d asked distance-is path-is level-is counts-are asked-is some is =
    let globals = book.globals in
    let path = path_along ends laid in
    let read = along_legs book ends o side laid in
    let far = enc (reflected_distance laid.square ends.hs ends.hr) in
    let here = counts_on side o.h laid far in
    let wanted = may_be_heard source here in
    let want = sound_along globals ends read far here wanted in
    let legs = leg_crossings_of laid ends book.obstacles in
    let edges = λ (band : Band). edges_among band (crossings_on legs) in
    let there = λ (band : Band). get_or read.edges (place_of band) [] in
    let same-edges : (band : Band) → edges band ≡ there band = λ (band : Band).
    among-legs band legs
    ∙ leg-crossings-are-edges band laid ends book.obstacles
    ∙ sym (at-place (λ band. edges_in band laid ends book.obstacles) [] band) in
    let tests : sound.counts ≡ map here all_bands = counts-are ∙ ap (λ (i : Interval). map (counts_on side o.h laid i) all_bands) distance-is in
    let all-asked : asked ≡ map wanted all_bands = asked-are asked source sound.counts side o.h laid far asked-is tests in
    let same-asked : (band : Band) → is_asked asked band ≡ wanted band = λ (band : Band). ap (λ (bs : List Bool). is_asked bs band) all-asked ∙ at-place wanted false band in
    let somewhere : list_any wanted all_bands ≡ true = sym (any-of asked wanted all-asked) ∙ some in
    let grounds : grounds_along globals book.zones path far ≡ want.path.grounds = ap (λ ts. map enc ts) (same-ground_along globals.method book.zones globals.g path (Known path.dp) (Known far)) in
    let losses : losses_along book.foliage path far ≡ want.path.foliage = same-losses book.foliage path far in
    let bars : bars_over path edges far want.path.grounds (is_asked asked) ≡ want.path.screening =
    map-same (λ band. where_asked (is_asked asked band) (bar_over path (edges band) far want.path.grounds band)) (λ band. where_asked (wanted band) (bar_over path (there band) far want.path.grounds band))
    (λ band.
    ap (λ (es : List Edge). where_asked (is_asked asked band) (bar_over path es far want.path.grounds band)) (same-edges band)
    ∙ ap (λ (b : Bool). where_asked b (bar_over path (there band) far want.path.grounds band)) (same-asked band)) all_bands in
    let paths : sound.path ≡ want.path =
    path-is
    ∙ ap (λ (i : Interval). propagation_along book path laid.square i (crossings_on legs) (is_asked asked)) distance-is
    ∙ ap (λ (is : List Interval). propagation_over globals book.foliage path laid.square far is edges (is_asked asked)) grounds
    ∙ ap (λ (is : List Interval). record want.path { foliage = is; screening = bars_over path edges far want.path.grounds (is_asked asked) }) losses
    ∙ ap (λ (is : List Interval). record want.path { screening = is }) bars in
    let sounds : sound ≡ want =
    ap (λ (p : Propagation). record { path = p; level = sound.level; counts = sound.counts }) paths
    ∙ ap (λ (i : Interval). record { path = want.path; level = i; counts = sound.counts }) level-is
    ∙ ap (λ (ts : List Truth). record { path = want.path; level = want.level; counts = ts }) tests in
    is
    ∙ ap (λ (heard : Sound). record { wall = Legs side ends.s ends.r; echo = Audible heard }) sounds
    ∙ ap (λ (b : Bool). record { wall = Legs side ends.s ends.r; echo = echo_of b want }) (sym somewhere)

-- ---- paths found one after another

-- the paths by way of some sides
abbrev pub by_sides : Book → Ends → Obstacle → List Side → List ReflectedPath
by_sides book ends o sides = filter_map (reflected_in book ends o) sides

-- what a list gives for a thing before others
filter_map-cons : {X Y : Type 0} (f : X → Option Y) (x : X) (xs : List X) → filter_map f (x ∷ xs) ≡ option_to_list (f x) ++ filter_map f xs
filter_map-cons f x xs = by (f x) refl where
  by : (found : Option _) → f x ≡ found → filter_map f (x ∷ xs) ≡ option_to_list (f x) ++ filter_map f xs
  by None e = rw e refl
  by (Some y) e = rw e refl

here : (sides : List Side) (i : ℕ) (side : Side) → slice_get sides i ≡ Some side → drop i sides ≡ side ∷ drop (i + 1) sides
here sides i side e = drop_more sides i side (slice_get_within sides i side e) ∙ ap (λ x. x ∷ drop (i + 1) sides) (get_or_from_slice_get sides i side side e)

-- a path for a side, where it mirrors the source to the receiver
pub one-added : (globals : Globals) (source : PreparedSource) (book : Book) (ends : Ends) (o : Obstacle) (side : Side) (laid : Reflection) (m : Reflected) (found : List Reflected)
    → has_mirror o side ends ≡ true → laid ≡ unfolded side ends.s ends.r → m ≡ reflected_of globals source ends (along_legs book ends o side laid)
    → found ++ m ∷ [] ≡ found ++ map (reflected_of globals source ends) (option_to_list (reflected_in book ends o side))
one-added globals source book ends o side laid m found some there is = rw (some, is, there) refl

pub none-added : (globals : Globals) (source : PreparedSource) (book : Book) (ends : Ends) (o : Obstacle) (side : Side) (found : List Reflected)
    → has_mirror o side ends ≡ false → found ≡ found ++ map (reflected_of globals source ends) (option_to_list (reflected_in book ends o side))
none-added globals source book ends o side found none = rw none (sym (append-nil found))

-- what is found, and what the sides behind give, is the same after a side
pub side-added : (globals : Globals) (source : PreparedSource) (book : Book) (ends : Ends) (o : Obstacle) (sides : List Side) (i : ℕ) (side : Side) (found new all : List Reflected)
    → slice_get sides i ≡ Some side → new ≡ found ++ map (reflected_of globals source ends) (option_to_list (reflected_in book ends o side))
    → found ++ map (reflected_of globals source ends) (by_sides book ends o (drop i sides)) ≡ all
    → new ++ map (reflected_of globals source ends) (by_sides book ends o (drop (i + 1) sides)) ≡ all
side-added globals source book ends o sides i side found new all e added h =
    let made = reflected_of globals source ends in
    let these = option_to_list (reflected_in book ends o side) in
    let rest = by_sides book ends o (drop (i + 1) sides) in
    let next : by_sides book ends o (drop i sides) ≡ these ++ rest =
    ap (by_sides book ends o) (here sides i side e) ∙ filter_map-cons (reflected_in book ends o) side (drop (i + 1) sides) in
    ap (λ xs. xs ++ map made rest) added
    ∙ append_assoc found (map made these) (map made rest)
    ∙ ap (λ xs. found ++ xs) (sym (map-append made these rest))
    ∙ ap (λ paths. found ++ map made paths) (sym next) ∙ h

-- an obstacle that doesn't reflect
none-of-sides : (book : Book) (ends : Ends) (o : Obstacle) (sides : List Side) → o.rho ≡ 0 → by_sides book ends o sides ≡ []
none-of-sides book ends o [] is = refl
none-of-sides book ends o (side ∷ sides) is =
    let none : mirror_of o side ends ≡ None = rw is refl in
    rw none (none-of-sides book ends o sides is)

-- adds nothing
pub nothing-reflected : (globals : Globals) (source : PreparedSource) (book : Book) (ends : Ends) (o : Obstacle) (found : List Reflected) → o.rho ≡ 0
    → found ≡ found ++ map (reflected_of globals source ends) (reflected_by book ends o)
nothing-reflected globals source book ends o found none =
    sym (append-nil found) ∙ ap (λ paths. found ++ map (reflected_of globals source ends) paths) (sym (none-of-sides book ends o (sides_of o) none))

obstacle-here : (obstacles : List Obstacle) (i : ℕ) (o : Obstacle) → i < length obstacles → o ≡ get_or obstacles i o → drop i obstacles ≡ o ∷ drop (i + 1) obstacles
obstacle-here obstacles i o below is = drop_more obstacles i o below ∙ ap (λ x. x ∷ drop (i + 1) obstacles) (sym is)

pub obstacle-added : (globals : Globals) (source : PreparedSource) (book : Book) (ends : Ends) (os : List Obstacle) (i : ℕ) (o : Obstacle) (found new all : List Reflected)
    → i < length os → o ≡ get_or os i o → new ≡ found ++ map (reflected_of globals source ends) (reflected_by book ends o)
    → found ++ map (reflected_of globals source ends) (flat_map (reflected_by book ends) (drop i os)) ≡ all
    → new ++ map (reflected_of globals source ends) (flat_map (reflected_by book ends) (drop (i + 1) os)) ≡ all
obstacle-added globals source book ends os i o found new all below is added h =
    let rest = flat_map (reflected_by book ends) (drop (i + 1) os) in
    let these = reflected_by book ends o in
    let next : flat_map (reflected_by book ends) (drop i os) ≡ these ++ rest = ap (flat_map (reflected_by book ends)) (obstacle-here os i o below is) in
    ap (λ xs. xs ++ map (reflected_of globals source ends) rest) added
    ∙ append_assoc found (map (reflected_of globals source ends) these) (map (reflected_of globals source ends) rest)
    ∙ ap (λ xs. found ++ xs) (sym (map-append (reflected_of globals source ends) these rest))
    ∙ ap (λ paths. found ++ map (reflected_of globals source ends) paths) (sym next) ∙ h

-- ---- there are no more than sides

few-of-sides : {X Y : Type 0} (f : X → Option Y) (xs : List X) → length (filter_map f xs) ≤ length xs
few-of-sides f [] = omega arith
few-of-sides f (x ∷ xs) = by (f x) refl (few-of-sides f xs) where
  by : (found : Option _) → f x ≡ found → length (filter_map f xs) ≤ length xs → length (filter_map f (x ∷ xs)) ≤ length (x ∷ xs)
  by None e h = rw e (omega (arith, h))
  by (Some y) e h = rw e (omega (arith, h))

few-of-obstacles : (book : Book) (ends : Ends) (os : List Obstacle) → length (flat_map (reflected_by book ends) os) ≤ side_total os
few-of-obstacles book ends [] = omega arith
few-of-obstacles book ends (o ∷ os) =
    let both = length-append (reflected_by book ends o) (flat_map (reflected_by book ends) os) in
    omega (arith, both, few-of-sides (reflected_in book ends o) (sides_of o), few-of-obstacles book ends os)

pub few-paths : (book : Book) (ends : Ends) → length (reflected_paths book ends) ≤ side_total book.obstacles
few-paths book ends = few-of-obstacles book ends book.obstacles

-- so are those that are found
pub few-found : (globals : Globals) (source : PreparedSource) (book : Book) (ends : Ends) (found : List Reflected) → found ≡ map (reflected_of globals source ends) (reflected_paths book ends) → length found ≤ side_total book.obstacles
few-found globals source book ends found is = rw (is, length-map (reflected_paths book ends) (reflected_of globals source ends)) (few-paths book ends)

-- ---- paths by way of the sides that may reflect to the receiver

-- the path by way of a listed side, of the obstacle of its number
abbrev pub way_of : Book → Ends → FacingSide → Option ReflectedPath
way_of book ends facing = found_of (reflected_in book ends) book.obstacles facing

-- a listed side stands where its numbers say, of an obstacle that reflects, and lists the place of the receiver
pub record IsWall (book : Book) (ends : Ends) (facing : FacingSide) (o : Obstacle) : Type 0 where
  pub found : slice_get book.obstacles facing.owned.obstacle ≡ Some o
  pub is : slice_get (sides_of o) facing.owned.index ≡ Some facing.owned.side
  pub place : facing.at ≡ ends.r
  pub reflects : 0 < o.rho

pub wall-within : (book : Book) (ends : Ends) (list : List FacingSide) (i : ℕ) (facing : FacingSide) (os : List Obstacle) → list ≡ facing_sides ends.r book.obstacles → os ≡ book.obstacles
    → i < length list → facing ≡ get_or list i facing → facing.owned.obstacle < length os
wall-within book ends list i facing os are obstacles-are below is =
    let listed = listed-at ends.r book.obstacles list i facing are below is in
    omega (arith, slice_get_within book.obstacles facing.owned.obstacle listed.obstacle listed.found, ap length obstacles-are)

pub wall-is : (book : Book) (ends : Ends) (list : List FacingSide) (i : ℕ) (facing : FacingSide) (os : List Obstacle) (o : Obstacle) → list ≡ facing_sides ends.r book.obstacles → os ≡ book.obstacles
    → i < length list → facing ≡ get_or list i facing → o ≡ get_or os facing.owned.obstacle o → IsWall book ends facing o
wall-is book ends list i facing os o are obstacles-are below is o-is =
    let listed = listed-at ends.r book.obstacles list i facing are below is in
    let same : listed.obstacle ≡ o =
    sym (o-is ∙ ap (λ (os : List Obstacle). get_or os facing.owned.obstacle o) obstacles-are ∙ get_or_from_slice_get book.obstacles facing.owned.obstacle listed.obstacle o listed.found) in
    record {
      found = listed.found ∙ ap Some same;
      is = subst (λ (o : Obstacle). slice_get (sides_of o) facing.owned.index ≡ Some facing.owned.side) same listed.is;
      place = listed.place;
      reflects = subst (λ (o : Obstacle). 0 < o.rho) same listed.reflects;
    }

-- what is found by way of it is what the side gives
pub wall-gives : (book : Book) (ends : Ends) (facing : FacingSide) (o : Obstacle) → IsWall book ends facing o → way_of book ends facing ≡ reflected_in book ends o facing.owned.side
wall-gives book ends facing o wall = ap (option_and_then (λ o. reflected_in book ends o facing.owned.side)) wall.found

-- nothing, where it may not mirror the source to the receiver
unmirrored-none : (book : Book) (ends : Ends) (o : Obstacle) (side : Side) → has_mirror o side ends ≡ false → reflected_in book ends o side ≡ None
unmirrored-none book ends o side none = rw none refl

pub wall-passed : (book : Book) (ends : Ends) (list : List FacingSide) (i : ℕ) (facing : FacingSide) → list ≡ facing_sides ends.r book.obstacles → i < length list → facing ≡ get_or list i facing
    → may_mirror facing.owned.side ends.s facing.at ≡ false → way_of book ends facing ≡ None
wall-passed book ends list i facing are below is none =
    let listed = listed-at ends.r book.obstacles list i facing are below is in
    let here : may_mirror facing.owned.side ends.s ends.r ≡ false = sym (ap (may_mirror facing.owned.side ends.s) listed.place) ∙ none in
    ap (option_and_then (λ o. reflected_in book ends o facing.owned.side)) listed.found
    ∙ unmirrored-none book ends listed.obstacle facing.owned.side (unmirrored listed.obstacle facing.owned.side ends here)

-- what is found, and what the listed sides behind give, is the same after a side
pub wall-added : (globals : Globals) (source : PreparedSource) (book : Book) (ends : Ends) (list : List FacingSide) (i : ℕ) (facing : FacingSide) (way : Option ReflectedPath) (found new all : List Reflected)
    → i < length list → facing ≡ get_or list i facing → way_of book ends facing ≡ way → new ≡ found ++ map (reflected_of globals source ends) (option_to_list way)
    → found ++ map (reflected_of globals source ends) (filter_map (way_of book ends) (drop i list)) ≡ all
    → new ++ map (reflected_of globals source ends) (filter_map (way_of book ends) (drop (i + 1) list)) ≡ all
wall-added globals source book ends list i facing way found new all below is gives added h =
    let made = reflected_of globals source ends in
    let these = option_to_list way in
    let rest = filter_map (way_of book ends) (drop (i + 1) list) in
    let one : drop i list ≡ facing ∷ drop (i + 1) list = drop_more list i facing below ∙ ap (λ x. x ∷ drop (i + 1) list) (sym is) in
    let next : filter_map (way_of book ends) (drop i list) ≡ these ++ rest =
    ap (filter_map (way_of book ends)) one ∙ filter_map-cons (way_of book ends) facing (drop (i + 1) list) ∙ ap (λ way. option_to_list way ++ rest) gives in
    ap (λ xs. xs ++ map made rest) added
    ∙ append_assoc found (map made these) (map made rest)
    ∙ ap (λ xs. found ++ xs) (sym (map-append made these rest))
    ∙ ap (λ paths. found ++ map made paths) (sym next) ∙ h

-- the listed sides give all paths
pub walls-give-all : (book : Book) (ends : Ends) (list : List FacingSide) → list ≡ facing_sides ends.r book.obstacles → filter_map (way_of book ends) list ≡ reflected_paths book ends
walls-give-all book ends list are =
    ap (filter_map (way_of book ends)) are
    ∙ listed-give-all (reflected_in book ends) ends.r book.obstacles (λ o side none. unmirrored-none book ends o side (unfaced o side ends none))
