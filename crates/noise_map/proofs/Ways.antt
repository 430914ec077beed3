-- The editor's way in a history that grows.
use Rattle.std.proofs.Common.{◌≡◌, ℕ, List, [], ◌∷◌, ◌++◌, sym, ap, ◌∙◌, inl, inr, append_assoc}
use Rattle.std.proofs.lemmas.List.{append-nil, append_cancel_right}
use Rattle.std.proofs.lemmas.List.Concat.{flat_map-append, flat_map-cons}
use Rattle.turn_lock.specs.History.{Begins, entries_of}
use Rattle.turn_lock.proofs.Histories.{entries_of-append}
use Rattle.map_board.specs.declared.looks.LookAll.{LookAll}
use Rattle.map_board.specs.Seats.{Entries}
use Rattle.map_board.specs.Showing.{accepted_by, accepted_edits}
use Rattle.map_lock.specs.Seats.{BoardEntry}
use Rattle.scene_book.specs.declared.edits.Edit.{Edit}
use Rattle.noise_map.specs.Effects.{Display, silent, refused, settled, known, contoured, Effect, journal_with_all, effect_at, point_after, journal_of}
use Rattle.noise_map.specs.Ways.{look_in, looks_in, look_entry, edit_entries, Stands, Settles, DoesLook, HasEffect, EditorRun, begun, and_line, Interrupted}
use Rattle.noise_map.specs.Histories.{IsEditorRun}
use Rattle.noise_map.specs.declared.run.status.Status.{Status}
use Rattle.noise_map.specs.declared.run.status.Status.TheVariants as status

-- ---- a history that grows

abbrev pub stands-grown : (history more own : Entries) (look : LookAll) → Stands history own look → Begins history more → Stands more own look
stands-grown history more own look s b = record {
  front = s.front;
  back = s.back ++ b.rest;
  whole = b.is ∙ (ap (λ l. l ++ b.rest) s.whole ∙ append_assoc s.front (look_entry look ∷ s.back) b.rest);
  behind = s.behind;
  state = s.state;
  run = s.run;
  shown = s.shown;
}

settles-grown : (history more own : Entries) (journal : List Edit) (added : Entries) → Settles history own journal added → Begins history more → Settles more own journal added
settles-grown history more own journal added does b = record {
  work = does.work;
  look = does.look;
  is = does.is;
  kinds = does.kinds;
  quiet = does.quiet;
  stands = stands-grown history more (own ++ does.work) does.look does.stands b;
  settled = does.settled;
  version = does.version;
  rows = does.rows;
}

does_look-grown : (history more own : Entries) (journal : List Edit) (display : Display) (added : Entries) → DoesLook history own journal display added → Begins history more
    → DoesLook more own journal display added
does_look-grown history more own journal silent added does b = does
does_look-grown history more own journal (refused fault) added does b = does
does_look-grown history more own journal settled added does b = settles-grown history more own journal added does b
does_look-grown history more own journal (contoured contour) added does b = settles-grown history more own journal added does b
does_look-grown history more own journal known added does b = record {
  look = does.look;
  is = does.is;
  stands = stands-grown history more own does.look does.stands b;
  right = does.right;
}

pub does-grown : (history more own : Entries) (journal : List Edit) (effect : Effect) (added : Entries) → HasEffect history own journal effect added → Begins history more
    → HasEffect more own journal effect added
does-grown history more own journal effect added does b = record {
  looked = does.looked;
  is = does.is;
  looks = does_look-grown history more (own ++ edit_entries journal effect.edits) (journal_with_all journal effect.edits) effect.display does.looked does.looks b;
}

pub way-grown : (history more : Entries) (done : List (List ℕ)) (own : Entries) → EditorRun history done own → Begins history more → EditorRun more done own
way-grown history more done own begun b = begun
way-grown history more done own (and_line before line front added way does) b =
    and_line before line front added (way-grown history more before front way b) (does-grown history more front (journal_of before) (effect_at (point_after before) line) added does b)

broken-grown : (history more : Entries) (done : List (List ℕ)) (own : Entries) → Interrupted history done own → Begins history more → Interrupted more done own
broken-grown history more done own broken b = record {
  before = broken.before;
  line = broken.line;
  whole = broken.whole;
  front = broken.front;
  added = broken.added;
  way = way-grown history more broken.before broken.front broken.way b;
  fails = broken.fails;
  own_is = broken.own_is;
}

pub is_way-grown : (s : Status) (history more : Entries) (done : List (List ℕ)) (own : Entries) → IsEditorRun s history done own → Begins history more → IsEditorRun s more done own
is_way-grown status.Done history more done own way b = way-grown history more done own way b
is_way-grown status.SomeRefused history more done own way b = way-grown history more done own way b
is_way-grown status.Usage history more done own way b = way
is_way-grown status.ReadFault history more done own way b = way-grown history more done own way b
is_way-grown status.WriteFault history more done own way b = way-grown history more done own way b
is_way-grown status.NoMemory history more done own (inl way) b = inl (way-grown history more done own way b)
is_way-grown status.NoMemory history more done own (inr broken) b = inr (broken-grown history more done own broken b)
is_way-grown status.InputLimit history more done own way b = way-grown history more done own way b

-- ---- entries

pub looks_in-append : (a b : Entries) → looks_in (a ++ b) ≡ looks_in a ++ looks_in b
looks_in-append a b = flat_map-append (λ (e : BoardEntry). look_in e.reply) a b

pub accepted-append : (a b : Entries) → accepted_edits (a ++ b) ≡ accepted_edits a ++ accepted_edits b
accepted-append a b = flat_map-append (λ (e : BoardEntry). accepted_by e.call e.reply) a b

pub looks_in-one : (e : BoardEntry) → looks_in (e ∷ []) ≡ look_in e.reply
looks_in-one e = flat_map-cons (λ (x : BoardEntry). look_in x.reply) e [] ∙ append-nil (look_in e.reply)

pub accepted-one : (e : BoardEntry) → accepted_edits (e ∷ []) ≡ accepted_by e.call e.reply
accepted-one e = flat_map-cons (λ (x : BoardEntry). accepted_by x.call x.reply) e [] ∙ append-nil (accepted_by e.call e.reply)

-- the entries of a number without the last ones
pub own-front : (n : ℕ) (front last mine own : Entries) → entries_of n (front ++ last) ≡ mine ++ own → entries_of n last ≡ own → entries_of n front ≡ mine
own-front n front last mine own whole is =
    append_cancel_right (entries_of n front) mine own
    (ap (λ l. entries_of n front ++ l) (sym is) ∙ (sym (entries_of-append n front last) ∙ whole))
