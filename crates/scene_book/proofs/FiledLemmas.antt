-- Things filed under their names: the entries of a map and the list of its values.
use Rattle.std.proofs.Common.{◌≡◌, ℕ, refl, sym, ◌∙◌, ap, Bool, true, false, cond, List, [], ◌∷◌, ◌++◌, length, suc, Some, None}
use Rattle.std.specs.Prelude.{bytes_eq, nat_lt, Vec}
use Rattle.std.specs.List.{IsDistinct, AllByRecursion, position, position_or_len}
use Rattle.std.specs.Map.{keys_of, lookup, values_of, remove_entry}
use Rattle.std.specs.declared.alloc.Global.{Global}
use Rattle.std.proofs.lemmas.Slice.Eq.{bytes_eq-Decides}
use Rattle.indexmap.specs.IndexMap.{insert_entry, insert_all}
use Rattle.scene_book.specs.Lists.{named, place_of, put_in, put_all, take_out, NoneNamed, AreApart}
use Rattle.scene_book.specs.inner.Filed.{AreFiled, same_key}

abbrev pub is_key : List ℕ → Vec ℕ Global → Bool
is_key name key = bytes_eq name key.items

module _ {T : Type 0} (name_of : T → List ℕ) where
  pub named-lookup : (name : List ℕ) (es : List (Vec ℕ Global × T)) → AreFiled name_of es → lookup (is_key name) es ≡ named name_of name (values_of es)
  named-lookup name [] h = refl
  named-lookup name (e ∷ es) h = rw (h.0, named-lookup name es h.1) refl

  place-first : (name : List ℕ) (es : List (Vec ℕ Global × T)) → AreFiled name_of es
      → position_or_len (is_key name) (keys_of es) ≡ position_or_len (λ thing. bytes_eq name (name_of thing)) (values_of es)
  place-first name [] h = refl
  place-first name (e ∷ es) h = rw (h.0, place-first name es h.1) refl

  as-many : (es : List (Vec ℕ Global × T)) → length (keys_of es) ≡ length (values_of es)
  as-many [] = refl
  as-many (e ∷ es) = ap suc (as-many es)

  pub place-lookup : (name : List ℕ) (es : List (Vec ℕ Global × T)) → AreFiled name_of es → position (is_key name) (keys_of es) ≡ place_of name_of name (values_of es)
  place-lookup name es h =
      let first = place-first name es h in
      let count = as-many es in
      λ i. cond (nat_lt (first i) (count i)) (Some (first i)) None

  put-step : (b : Bool) (e : Vec ℕ Global × T) (thing : T) (es rest : List (Vec ℕ Global × T)) (put : List T) → values_of rest ≡ put
      → values_of (cond b ((e.0, thing) ∷ es) (e ∷ rest)) ≡ cond b (thing ∷ values_of es) (e.1 ∷ put)
  put-step true e thing es rest put h = refl
  put-step false e thing es rest put h = ap (λ (l : List T). e.1 ∷ l) h

  pub put-values : (key : Vec ℕ Global) (thing : T) (es : List (Vec ℕ Global × T)) → key.items ≡ name_of thing → AreFiled name_of es
      → values_of (insert_entry same_key es key thing) ≡ put_in name_of thing (values_of es)
  put-values key thing [] k h = refl
  put-values key thing (e ∷ es) k h =
      put-step (same_key key e.0) e thing es (insert_entry same_key es key thing) (put_in name_of thing (values_of es)) (put-values key thing es k h.1)
      ∙ rw (k, h.0) refl

  filed-step : (b : Bool) (e : Vec ℕ Global × T) (key : Vec ℕ Global) (thing : T) (es rest : List (Vec ℕ Global × T)) → (b ≡ true → key.items ≡ e.0.items)
      → key.items ≡ name_of thing → AreFiled name_of (e ∷ es) → AreFiled name_of rest → AreFiled name_of (cond b ((e.0, thing) ∷ es) (e ∷ rest))
  filed-step true e key thing es rest same k h r = (sym (same refl) ∙ k, h.1)
  filed-step false e key thing es rest same k h r = (h.0, r)

  pub put-filed : (key : Vec ℕ Global) (thing : T) (es : List (Vec ℕ Global × T)) → key.items ≡ name_of thing → AreFiled name_of es
      → AreFiled name_of (insert_entry same_key es key thing)
  put-filed key thing [] k h = (k, tt)
  put-filed key thing (e ∷ es) k h =
      filed-step (same_key key e.0) e key thing es (insert_entry same_key es key thing) (bytes_eq-Decides key.items e.0.items).0 k h (put-filed key thing es k h.1)

  take-step : (b : Bool) (e : Vec ℕ Global × T) (es rest : List (Vec ℕ Global × T)) (left : List T) → values_of rest ≡ left
      → values_of (cond b es (e ∷ rest)) ≡ cond b (values_of es) (e.1 ∷ left)
  take-step true e es rest left h = refl
  take-step false e es rest left h = ap (λ (l : List T). e.1 ∷ l) h

  pub take-values : (name : List ℕ) (es : List (Vec ℕ Global × T)) → AreFiled name_of es
      → values_of (remove_entry (is_key name) es) ≡ take_out name_of name (values_of es)
  take-values name [] h = refl
  take-values name (e ∷ es) h =
      take-step (is_key name e.0) e es (remove_entry (is_key name) es) (take_out name_of name (values_of es)) (take-values name es h.1)
      ∙ rw h.0 refl

  left-step : (b : Bool) (e : Vec ℕ Global × T) (es rest : List (Vec ℕ Global × T)) → AreFiled name_of (e ∷ es) → AreFiled name_of rest
      → AreFiled name_of (cond b es (e ∷ rest))
  left-step true e es rest h r = h.1
  left-step false e es rest h r = (h.0, r)

  pub take-filed : (name : List ℕ) (es : List (Vec ℕ Global × T)) → AreFiled name_of es → AreFiled name_of (remove_entry (is_key name) es)
  take-filed name [] h = tt
  take-filed name (e ∷ es) h = left-step (is_key name e.0) e es (remove_entry (is_key name) es) h (take-filed name es h.1)

  none_named : (key : Vec ℕ Global) (x : T) (es : List (Vec ℕ Global × T)) → key.items ≡ name_of x → AllByRecursion (λ k. same_key key k ≡ false) (keys_of es)
      → AreFiled name_of es → NoneNamed name_of (name_of x) (values_of es)
  none_named key x [] k d h = tt
  none_named key x (e ∷ es) k d h = (rw (← k, ← h.0) d.0, none_named key x es k d.1 h.1)

  -- the keys of a map are distinct, so the names are
  pub apart : (es : List (Vec ℕ Global × T)) → IsDistinct same_key (keys_of es) → AreFiled name_of es → AreApart name_of (values_of es)
  unfolding IsDistinct
  apart [] d h = tt
  apart (e ∷ es) d h = (none_named e.0 e.1 es h.0 d.0 h.1, apart es d.1 h.1)

  -- entries inserted one after another
  pub all-filed : (news es : List (Vec ℕ Global × T)) → AreFiled name_of news → AreFiled name_of es
      → AreFiled name_of (insert_all same_key es news)
  all-filed [] es n h = h
  all-filed (e ∷ news) es n h =
      all-filed news (insert_entry same_key es e.0 e.1) n.1 (put-filed e.0 e.1 es n.0 h)

  pub all-values : (news es : List (Vec ℕ Global × T)) → AreFiled name_of news → AreFiled name_of es
      → values_of (insert_all same_key es news) ≡ put_all name_of (values_of news) (values_of es)
  all-values [] es n h = refl
  all-values (e ∷ news) es n h =
      all-values news (insert_entry same_key es e.0 e.1) n.1 (put-filed e.0 e.1 es n.0 h)
      ∙ ap (put_all name_of (values_of news)) (put-values e.0 e.1 es n.0 h)

  pub filed-push : (es : List (Vec ℕ Global × T)) (key : Vec ℕ Global) (thing : T) → key.items ≡ name_of thing
      → AreFiled name_of es → AreFiled name_of (es ++ (key, thing) ∷ [])
  filed-push [] key thing k h = (k, tt)
  filed-push (e ∷ es) key thing k h = (h.0, filed-push es key thing k h.1)

  pub values-push : (es : List (Vec ℕ Global × T)) (key : Vec ℕ Global) (thing : T) (rest : List T)
      → values_of (es ++ (key, thing) ∷ []) ++ rest ≡ values_of es ++ thing ∷ rest
  values-push [] key thing rest = refl
  values-push (e ∷ es) key thing rest = ap (λ (l : List T). e.1 ∷ l) (values-push es key thing rest)
