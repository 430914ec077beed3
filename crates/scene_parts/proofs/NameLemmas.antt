-- A name is also a name that may have slashes.
use Rattle.std.proofs.Common.{ℕ, List, [], ◌∷◌, length, Bool, true, false, ◌&&◌, ◌||◌, IsTrue, arith, refl}
use Rattle.std.specs.Prelude.{nat_le}
use Rattle.std.specs.List.{list_all}
use Rattle.std.proofs.lemmas.Grind.{common_steps}
use Rattle.scene_parts.specs.Names.{is_name_byte, is_any_name_byte, IsName, IsAnyName}

both : (p q : Bool) → IsTrue p → IsTrue q → IsTrue (p && q)
both true q h k = k
both false q h k = cc

pub left : (p q : Bool) → IsTrue (p && q) → IsTrue p
left true q h = refl
left false q h = cc

pub right : (p q : Bool) → IsTrue (p && q) → IsTrue q
right true q h = h
right false q h = cc

either : (p q : Bool) → IsTrue p → IsTrue (p || q)
either true q h = refl
either false q h = cc

any_bytes : (text : List ℕ) → IsTrue (list_all is_name_byte text) → IsTrue (list_all is_any_name_byte text)
any_bytes [] h = h
any_bytes (b ∷ bs) h =
    both (is_any_name_byte b) (list_all is_any_name_byte bs)
    (either (is_name_byte b) _ (left (is_name_byte b) (list_all is_name_byte bs) h))
    (any_bytes bs (right (is_name_byte b) (list_all is_name_byte bs) h))

up_to_42 : (n : ℕ) → IsTrue (nat_le n 32) → IsTrue (nat_le n 42)
up_to_42 n h = grind (arith, common_steps)

pub name-is_any_name : (text : List ℕ) → IsName text → IsAnyName text
name-is_any_name text h =
    let short = left (nat_le 1 (length text) && nat_le (length text) 32) (list_all is_name_byte text) h in
    both (nat_le 1 (length text) && nat_le (length text) 42) (list_all is_any_name_byte text)
    (both (nat_le 1 (length text)) (nat_le (length text) 42)
    (left (nat_le 1 (length text)) (nat_le (length text) 32) short)
    (up_to_42 (length text) (right (nat_le 1 (length text)) (nat_le (length text) 32) short)))
    (any_bytes text (right (nat_le 1 (length text) && nat_le (length text) 32) (list_all is_name_byte text) h))
