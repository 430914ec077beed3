-- What a check passes is in its ranges.
use Rattle.std.proofs.Common.{◌≡◌, ℕ, ℤ, pos, ◌≤◌, refl, sym, ap, subst, ◌∙◌, arith, suc, Bool, true, false, List, [], ◌∷◌, length}
use Rattle.std.specs.Prelude.{Option, Some, None, IfSome, Result, Ok, Err, ◌&&◌, nat_lt, int_le, unsigned_abs, if◌then◌else◌}
use Rattle.scene_geom.specs.declared.plan.Pt.{Pt}
use Rattle.scene_parts.specs.Answers.{◌>>=◌, ◌>>◌, each, optional}
use Rattle.scene_parts.specs.Limits.{most_corners, most_columns, widest_step, plan_end, farthest_reach}
use Rattle.scene_parts.specs.Parts.{IsReach, last_place}
use Rattle.scene_parts.specs.Checking.{put, check_of, within, in_range, corner_of, corners_of, check_outline, plan_point, reaching, height_of, air_of, ground_of}
use Rattle.scene_parts.specs.declared.outlines.RawPt.{RawPt}
use Rattle.scene_parts.specs.declared.kinds.Shape.TheVariants.{Building}
use Rattle.scene_parts.specs.declared.kinds.Field.TheVariants as fields
use Rattle.scene_parts.specs.declared.parts.Part.{Part}
use Rattle.scene_parts.specs.declared.parts.Part.TheVariants as parts
use Rattle.scene_parts.specs.declared.faults.PartFault.{PartFault}
use Rattle.scene_parts.specs.declared.faults.PartFault.TheVariants.{OutOfRange}
use Rattle.scene_parts.specs.declared.kinds.Field.{Field}
use Rattle.scene_parts.specs.declared.checks.checking.RawPart.{RawPart}
use Rattle.scene_parts.specs.declared.checks.checking.RawPart.TheVariants as raw
use Rattle.scene_parts.specs.declared.checks.checked.Checked.{Checked}
use Rattle.scene_parts.specs.declared.checks.checked.Checked.TheVariants as checked
use Rattle.scene_book.specs.declared.edits.Edit.TheVariants as edits
use Rattle.scene_book.specs.Edits.{edit_of}
use Rattle.scene_undo.specs.Scenes.{IsEdit}

-- ---- tests in a row

-- an accepted answer has an accepted first part
pub bind-ok : {A B E : Type 0} (r : Result A E) (next : A → Result B E) (y : B) → (r >>= next) ≡ Ok y
    → (x : A) × (r ≡ Ok x) × (next x ≡ Ok y)
bind-ok (Ok x) next y e = (x, refl, e)
bind-ok (Err fault) next y e = cc

-- ---- ranges

between : (low high : ℕ) (value : ℤ) → int_le (pos low) value ≡ true → int_le value (pos high) ≡ true
    → (low ≤ unsigned_abs value) × (unsigned_abs value ≤ high)
between low high value h k = (grind arith, grind arith)

within-ok : (field : Field) (low high value n : ℤ) → within field low high value ≡ Ok n
    → (n ≡ value) × (int_le low value ≡ true) × (int_le value high ≡ true)
within-ok field low high value n e = by (int_le low value) (int_le value high) e
  where
    by : (a b : Bool) → (if a && b then Ok value else Err (OutOfRange field value)) ≡ Ok n
        → (n ≡ value) × (a ≡ true) × (b ≡ true)
    by true true e = (cc, refl, refl)
    by true false e = cc
    by false b e = cc

in_range-ok : (field : Field) (low high : ℕ) (value : ℤ) (n : ℕ) → in_range field low high value ≡ Ok n → (low ≤ n) × (n ≤ high)
in_range-ok field low high value n e =
    let first = bind-ok (within field (pos low) (pos high) value) (λ m. Ok (unsigned_abs m)) n e in
    let inside = within-ok field (pos low) (pos high) value first.0 first.1 in
    let is : unsigned_abs first.0 ≡ n = cc in
    let made : unsigned_abs value ≡ n = ap unsigned_abs (sym inside.0) ∙ is in
    let both = between low high value inside.1 inside.2 in
    (omega (arith, both.0, made), omega (arith, both.1, made))

optional-ok : {A B : Type 0} (P : B → Type 0) (test : A → Result B PartFault) → ((x : A) (y : B) → test x ≡ Ok y → P y)
    → (given : Option A) (made : Option B) → optional test given ≡ Ok made → IfSome made P
optional-ok P test passes None made e = let is : None ≡ made = cc in subst (λ o. IfSome o P) is tt
optional-ok P test passes (Some x) made e =
    let first = bind-ok (test x) (λ y. Ok (Some y)) made e in
    let is : Some first.0 ≡ made = cc in
    subst (λ o. IfSome o P) is (passes x first.0 first.1)

each-length : {A B : Type 0} (test : A → Result B PartFault) (xs : List A) (ys : List B) → each test xs ≡ Ok ys → length ys ≡ length xs
each-length test [] ys e = let is : [] ≡ ys = cc in ap length (sym is)
each-length test (x ∷ xs) ys e =
    let first = bind-ok (test x) _ ys e in
    let rest = bind-ok (each test xs) _ ys first.2 in
    let is : first.0 ∷ rest.0 ≡ ys = cc in
    ap length (sym is) ∙ ap suc (each-length test xs rest.0 rest.1)

-- ---- corners and columns

corners-few : (points : List RawPt) (corners : List Pt) → corners_of points ≡ Ok corners → length corners ≤ most_corners
unfolding corners_of
corners-few points corners e =
    let first = bind-ok (each corner_of points) _ corners e in
    by first.0 (each-length corner_of points first.0 first.1) (nat_lt most_corners (length points)) refl first.2
  where
    by : (made : List Pt) → length made ≡ length points → (t : Bool) → nat_lt most_corners (length points) ≡ t
        → (if t then Err (OutOfRange fields.Points (pos (length points))) else Ok made) ≡ Ok corners → length corners ≤ most_corners
    by made long true h e = cc
    by made long false h e =
        let is : made ≡ corners = cc in
        let few : length points ≤ most_corners = grind arith in
        omega (arith, ap length is, long, few)

reaching-few : (field : Field) (start : ℤ) (step : ℕ) (count : ℤ) (n : ℕ) → reaching field start step count ≡ Ok n → n ≤ most_columns
unfolding reaching
reaching-few field start step count n e =
    let first = bind-ok (in_range field 1 most_columns count) _ n e in
    by first.0 (in_range-ok field 1 most_columns count first.0 first.1).1 (int_le (last_place start step first.0) (pos plan_end)) first.2
  where
    by : (m : ℕ) → m ≤ most_columns → (t : Bool) → (if t then Ok m else Err (OutOfRange field count)) ≡ Ok n → n ≤ most_columns
    by m few true e = let is : m ≡ n = cc in omega (arith, few, is)
    by m few false e = cc

-- ---- what a check passes

-- what an answer gives, where it gives something
abbrev Gives : {A : Type 0} → (A → Type 0) → Result A PartFault → Type 0
Gives {A = A} P answer = (x : A) → answer ≡ Ok x → P x

gives : {A : Type 0} (P : A → Type 0) (x : A) → P x → Gives P (Ok x)
gives P x p y e = let is : x ≡ y = cc in subst P is p

behind : {A B : Type 0} (P : B → Type 0) (r : Result A PartFault) (next : A → Result B PartFault) → ((x : A) → r ≡ Ok x → Gives P (next x))
    → Gives P (r >>= next)
behind P (Ok x) next given y e = given x refl y e
behind P (Err fault) next given y e = cc

beside : {A B : Type 0} (P : B → Type 0) (r : Result A PartFault) (next : Result B PartFault) → Gives P next → Gives P (r >> next)
beside P (Ok x) next given y e = given y e
beside P (Err fault) next given y e = cc

abbrev Passes : Result Checked PartFault → Type 0
Passes = Gives (λ made. IsEdit (edit_of made))

-- a part that a check passes is put by an edit
put-passes : {A : Type 0} (kind : A → Part) (answer : Result A PartFault) → Gives (λ x. IsEdit (edits.Put (kind x))) answer
    → Passes (put kind answer)
put-passes kind answer given = behind _ answer _ (λ x e. gives _ (checked.Part (kind x)) (given x e))

-- sources, obstacles and receivers are put as they are
pub checked-edit : (given : RawPart) → Passes (check_of given)
unfolding check_of
checked-edit (raw.Zone name points g) =
    put-passes parts.Zone _ (behind _ (corners_of points) _ (λ corners few. behind _ (in_range fields.G 0 100 g) _ (λ factor within.
    beside _ (check_outline Building corners) _ (gives _ _ (record {
      few = corners-few points corners few;
      ground_factor = (in_range-ok fields.G 0 100 g factor within).1;
    })))))
checked-edit (raw.Foliage name points h) =
    put-passes parts.Foliage _ (behind _ (corners_of points) _ (λ corners few. behind _ (height_of h) _ (λ height _.
    beside _ (check_outline Building corners) _ (gives _ _ (record { few = corners-few points corners few })))))
checked-edit (raw.Grid name x y step columns rows h) =
    behind _ (plan_point fields.X fields.Y x y) _ (λ at _. behind _ (in_range fields.Step 1 widest_step step) _ (λ apart _.
    behind _ (reaching fields.Columns at.x apart columns) _ (λ across few. behind _ (reaching fields.Rows at.y apart rows) _ (λ up low.
    behind _ (height_of h) _ (λ height _. gives _ _ (record {
      columns = reaching-few fields.Columns at.x apart columns across few;
      rows = reaching-few fields.Rows at.y apart rows up low;
    }))))))
checked-edit (raw.Set reach g air c0 word) =
    behind _ (optional (in_range fields.Reach 1 farthest_reach) reach) _ (λ far far-ok. behind _ (optional (in_range fields.G 0 100) g) _ (λ factor factor-ok.
    behind _ (optional (in_range fields.C0 0 1000) c0) _ (λ correction correction-ok. behind _ (optional air_of air) _ (λ weather _.
    behind _ (optional ground_of word) _ (λ method _. gives _ _ (record {
      reach = optional-ok IsReach (in_range fields.Reach 1 farthest_reach)
          (λ v n h. let both = in_range-ok fields.Reach 1 farthest_reach v n h in record { low = both.0; high = both.1 }) reach far far-ok;
      ground_factor = optional-ok (λ n. n ≤ 100) (in_range fields.G 0 100)
          (λ v n h. (in_range-ok fields.G 0 100 v n h).1) g factor factor-ok;
      c0 = optional-ok (λ n. n ≤ 1000) (in_range fields.C0 0 1000)
          (λ v n h. (in_range-ok fields.C0 0 1000 v n h).1) c0 correction correction-ok;
    }))))))
checked-edit given = put-passes _ _ (λ part _. tt)
