-- Values, lists, and records as they are written in parts.
use Rattle.std.proofs.Common.{◌≡◌, ℕ, zero, suc, ◌+◌, List, [], ◌∷◌, ◌++◌, Option, Some, None, length, map, take, true, false, cond, refl, sym, ap, ◌∙◌, subst, arith}
use Rattle.std.specs.Prelude.{flat_map, slice_get}
use Rattle.std.specs.Option.{option_map}
use Rattle.std.proofs.lemmas.Grind.{flat_map-append}
use Rattle.std.proofs.lemmas.List.{length-map}
use Rattle.byteorder.specs.Endian.{little_bytes}
use Rattle.list_laws.proofs.Items.{append_nil}
use Rattle.int_core.specs.Value.{a_table, Value, object, same}
use Rattle.table_core.specs.declared.value.TableId.{TableId}
use Rattle.table_core.specs.declared.value.Value.{Value as Kept}
use Rattle.table_core.specs.declared.value.Value.TheVariants as kept
use Rattle.table_core.specs.Table.{Contents}
use Rattle.image_core.specs.Image.{PermKey, Perm, Item, permanent, environment}
use Rattle.image_core.specs.Records.{Field, of_value, key_of, named, sort_of, unnamed_item, or_item, item, row_fields, row_item, metatable_value, table_fields, record_of_table}
use Rattle.image_bytes.specs.Format.{list, spell_all}
use Rattle.image_bytes.specs.Bytes.{Reader, item_format, spell_rows, row_after, table_format}
use Rattle.lua_stack.specs.View.{blank}
use Rattle.lua_stack.proofs.Parts.{take_next, length_blank}
use Rattle.lua_heap.specs.Plain.{plain, table}
use Rattle.lua_heap.specs.Reading.{value, row}
use Rattle.graph_core.proofs.Meeting.{map_more, map_twice, flat_twice}
use Rattle.eris_write.specs.declared.output.Output.{Output}
use Rattle.eris_write.specs.declared.writer.Writer.{Writer}
use Rattle.eris_write.specs.Output.{Puts, put}
use Rattle.eris_write.specs.Refusals.{or_else, shown, unless_item, unnamed_refusal}
use Rattle.eris_write.specs.Writing.{HasText, Writes, texts_in, name_in, naming_in, read_in, item_in, item_bytes, unnamed_bytes}
use Rattle.eris_write.proofs.Putting.{or_none, writes_both, writes_as}
use Rattle.eris_write.proofs.Spelled.{unnamed_spelled, list_spelled, all_both, row_spelled, rows_both, table_spelled}

-- values by their names

-- a value's bytes are those of the form that it is
pub value_put : (w : Writer) (before after : Output) (form v : Kept) → form ≡ v → Puts before after None (λ _. unnamed_bytes (naming_in w) (read_in w form)) → Puts before after None (λ _. unnamed_bytes (naming_in w) (read_in w v))
value_put w before after form v is = subst (λ (v : Kept). Puts before after None (λ _. unnamed_bytes (naming_in w) (read_in w v))) is

pub environment_named : (env : ℕ) (ps : List Perm) (v : Value) → true ≡ same (object a_table env) v → named env ps v ≡ Some environment
environment_named env ps v e = ap (λ b. cond b (Some environment) (option_map (permanent (sort_of v)) (key_of ps v))) (sym e)

pub permanent_named : (env : ℕ) (ps : List Perm) (v : Value) (k : PermKey) → false ≡ same (object a_table env) v → Some k ≡ key_of ps v → named env ps v ≡ Some (permanent (sort_of v) k)
permanent_named env ps v k e f = ap (λ b. cond b (Some environment) (option_map (permanent (sort_of v)) (key_of ps v))) (sym e) ∙ ap (option_map (permanent (sort_of v))) (sym f)

pub not_named : (env : ℕ) (ps : List Perm) (v : Value) → false ≡ same (object a_table env) v → None ≡ key_of ps v → named env ps v ≡ None
not_named env ps v e f = ap (λ b. cond b (Some environment) (option_map (permanent (sort_of v)) (key_of ps v))) (sym e) ∙ ap (option_map (permanent (sort_of v))) (sym f)

pub named_written : (w : Writer) (v : Kept) (a b : Output) (i : Item) (s : Reader → List ℕ) → name_in w (read_in w v) ≡ Some i → ((R : Reader) → (item_format R).spell i ≡ s R) → Puts a b None s
    → Writes w a b (of_value (read_in w v) ∷ []) (item_bytes w v)
named_written w v a b i s n e h = record {
  grown = λ R. h.grown R ∙ ap (put a.bytes.items) (sym (e R) ∙ ap (λ (o : Option Item). (item_format R).spell (or_item o (unnamed_item (naming_in w) (read_in w v)))) (sym n));
  first = h.first ∙ ap (λ (o : Option Item). or_else (shown a.refusal) (or_else (unless_item o (unnamed_refusal (plain w.world.now 0) (read_in w v))) None)) (sym n);
}

pub unnamed_written : (w : Writer) (v : Kept) (a b : Output) → name_in w (read_in w v) ≡ None → Puts a b (unnamed_refusal (plain w.world.now 0) (read_in w v)) (λ _. unnamed_bytes (naming_in w) (read_in w v))
    → Writes w a b (of_value (read_in w v) ∷ []) (item_bytes w v)
unnamed_written w v a b n h = record {
  grown = λ R. h.grown R ∙ ap (put a.bytes.items) (sym (unnamed_spelled R (naming_in w) (read_in w v)) ∙ ap (λ (o : Option Item). (item_format R).spell (or_item o (unnamed_item (naming_in w) (read_in w v)))) (sym n));
  first = h.first ∙ ap (or_else (shown a.refusal)) (sym (or_none (unnamed_refusal (plain w.world.now 0) (read_in w v)))
      ∙ ap (λ (o : Option Item). or_else (unless_item o (unnamed_refusal (plain w.world.now 0) (read_in w v))) None) (sym n));
}

-- lists of values

abbrev pub value_fields : Writer → List Kept → List Field
value_fields w vs = map of_value (map (read_in w) vs)

abbrev pub value_bytes : Writer → List Kept → Reader → List ℕ
value_bytes w vs R = spell_all (item_format R) (map (item_in w) vs)

pub one_on : {A : Type 0} (n : ℕ) (xs : List A) (x : A) → slice_get xs n ≡ Some x → take (n + 1) xs ≡ take n xs ++ x ∷ []
one_on n xs x g = let e : n + 1 ≡ suc n = omega arith in ap (λ m. take m xs) e ∙ take_next n xs x g

values_more : (w : Writer) (vs us : List Kept) (a b c : Output) → Writes w a b (value_fields w vs) (value_bytes w vs) → Writes w b c (value_fields w us) (value_bytes w us) → Writes w a c (value_fields w (vs ++ us)) (value_bytes w (vs ++ us))
values_more w vs us a b c h k =
    writes_as w a c (value_fields w vs ++ value_fields w us) (value_fields w (vs ++ us)) (λ R. value_bytes w vs R ++ value_bytes w us R) (value_bytes w (vs ++ us))
    (sym (ap (map of_value) (map_more (read_in w) vs us) ∙ map_more of_value (map (read_in w) vs) (map (read_in w) us)))
    (λ R. sym (ap (spell_all (item_format R)) (map_more (item_in w) vs us) ∙ all_both (item_format R) (map (item_in w) vs) (map (item_in w) us)))
    (writes_both w (value_fields w vs) (value_fields w us) (value_bytes w vs) (value_bytes w us) h k)

one_value : (w : Writer) (v : Kept) (a b : Output) → Writes w a b (of_value (read_in w v) ∷ []) (item_bytes w v) → Writes w a b (value_fields w (v ∷ [])) (value_bytes w (v ∷ []))
one_value w v a b h = writes_as w a b (of_value (read_in w v) ∷ []) (value_fields w (v ∷ [])) (item_bytes w v) (value_bytes w (v ∷ [])) refl (λ R. sym (append_nil (item_bytes w v R))) h

pub next_value : (w : Writer) (vs : List Kept) (n : ℕ) (v : Kept) (a b c : Output) → slice_get vs n ≡ Some v → Writes w a b (value_fields w (take n vs)) (value_bytes w (take n vs))
    → Writes w b c (of_value (read_in w v) ∷ []) (item_bytes w v) → Writes w a c (value_fields w (take (n + 1) vs)) (value_bytes w (take (n + 1) vs))
next_value w vs n v a b c g h k = subst (λ l. Writes w a c (value_fields w l) (value_bytes w l)) (sym (one_on n vs v g)) (values_more w (take n vs) (v ∷ []) a b c h (one_value w v b c k))

pub list_written : (w : Writer) (vs : List Kept) (n : ℕ) (a b c : Output) → n ≡ length vs → Puts a b None (λ _. little_bytes 4 n) → Writes w b c (value_fields w vs) (value_bytes w vs)
    → Writes w a c (value_fields w vs) (λ R. (list (item_format R)).spell (map (item_in w) vs))
list_written w vs n a b c e h k =
    writes_as w a c (value_fields w vs) (value_fields w vs) (λ R. little_bytes 4 n ++ value_bytes w vs R) (λ R. (list (item_format R)).spell (map (item_in w) vs)) refl
    (λ R. ap (λ n. little_bytes 4 n ++ value_bytes w vs R) (e ∙ sym (length-map vs (item_in w))) ∙ sym (list_spelled (item_format R) (map (item_in w) vs)))
    (writes_both w [] (value_fields w vs) (λ _. little_bytes 4 n) (value_bytes w vs) h k)

-- nils

blank_next : (n : ℕ) → blank (n + 1) ≡ blank n ++ kept.Nil ∷ []
blank_next n = let e : n + 1 ≡ suc n = omega arith in ap blank e ∙ go n
  where
    go : (n : ℕ) → blank (suc n) ≡ blank n ++ kept.Nil ∷ []
    go zero = refl
    go (suc n) = ap (λ l. kept.Nil ∷ l) (go n)

pub next_nil : (w : Writer) (n : ℕ) (a b c : Output) → Writes w a b (value_fields w (blank n)) (value_bytes w (blank n)) → Writes w b c (of_value (read_in w kept.Nil) ∷ []) (item_bytes w kept.Nil)
    → Writes w a c (value_fields w (blank (n + 1))) (value_bytes w (blank (n + 1)))
next_nil w n a b c h k = subst (λ l. Writes w a c (value_fields w l) (value_bytes w l)) (sym (blank_next n)) (values_more w (blank n) (kept.Nil ∷ []) a b c h (one_value w kept.Nil b c k))

pub registers_written : (w : Writer) (rs : List Kept) (n count : ℕ) (a b c d : Output) → count ≡ length rs + n → Puts a b None (λ _. little_bytes 4 count) → Writes w b c (value_fields w rs) (value_bytes w rs)
    → Writes w c d (value_fields w (blank n)) (value_bytes w (blank n)) → Writes w a d (value_fields w (rs ++ blank n)) (λ R. (list (item_format R)).spell (map (item_in w) (rs ++ blank n)))
registers_written w rs n count a b c d e h k l =
    list_written w (rs ++ blank n) count a b d (e ∙ sym (length_more_of rs)) h (values_more w rs (blank n) b c d k l)
  where
    length_more_of : (rs : List Kept) → length (rs ++ blank n) ≡ length rs + n
    length_more_of [] = let e = length_blank n in omega (arith, e)
    length_more_of (r ∷ rs) = let e = length_more_of rs in omega (arith, e)

-- tables

pub metatable_text : (texts : List (List ℕ)) (v : Kept) (m : Option ℕ) → value texts v ≡ metatable_value m → HasText texts v
metatable_text texts kept.Nil m e = tt
metatable_text texts (kept.Bool b) m e = tt
metatable_text texts (kept.Int n) m e = tt
metatable_text texts (kept.Str id) None e = absurd (cc)
metatable_text texts (kept.Str id) (Some m) e = absurd (cc)
metatable_text texts (kept.Prim n) m e = tt
metatable_text texts (kept.Table id) m e = tt
metatable_text texts (kept.Func id) m e = tt
metatable_text texts (kept.Coro id) m e = tt

abbrev pub rows_fields : Writer → List (Kept × Kept) → List Field
rows_fields w rows = flat_map (λ r. row_fields (row (texts_in w) r)) rows

abbrev pub rows_bytes : Writer → List (Kept × Kept) → Reader → List ℕ
rows_bytes w rows R = spell_rows R (map (λ r. row_item (naming_in w) (row (texts_in w) r)) rows)

row_written : (w : Writer) (r : Kept × Kept) (a b c : Output) → Writes w a b (of_value (read_in w r.0) ∷ []) (item_bytes w r.0) → Writes w b c (of_value (read_in w r.1) ∷ []) (item_bytes w r.1) → Writes w a c (rows_fields w (r ∷ [])) (rows_bytes w (r ∷ []))
row_written w r a b c h k =
    writes_as w a c (row_fields (row (texts_in w) r)) (rows_fields w (r ∷ [])) (λ R. item_bytes w r.0 R ++ item_bytes w r.1 R) (rows_bytes w (r ∷ []))
    refl (λ R. sym (append_nil ((row_after R []).spell (row_item (naming_in w) (row (texts_in w) r))) ∙ row_spelled R (item_in w r.0) (item_in w r.1)))
    (writes_both w (of_value (read_in w r.0) ∷ []) (of_value (read_in w r.1) ∷ []) (item_bytes w r.0) (item_bytes w r.1) h k)

pub next_row : (w : Writer) (rows : List (Kept × Kept)) (n : ℕ) (r : Kept × Kept) (a b c d : Output) → slice_get rows n ≡ Some r → Writes w a b (rows_fields w (take n rows)) (rows_bytes w (take n rows))
    → Writes w b c (of_value (read_in w r.0) ∷ []) (item_bytes w r.0) → Writes w c d (of_value (read_in w r.1) ∷ []) (item_bytes w r.1) → Writes w a d (rows_fields w (take (n + 1) rows)) (rows_bytes w (take (n + 1) rows))
next_row w rows n r a b c d g h k l =
    let H = λ (x : Kept × Kept). row_item (naming_in w) (row (texts_in w) x) in
    writes_as w a d (rows_fields w (take n rows) ++ rows_fields w (r ∷ [])) (rows_fields w (take (n + 1) rows)) (λ R. rows_bytes w (take n rows) R ++ rows_bytes w (r ∷ []) R) (rows_bytes w (take (n + 1) rows))
    (sym (ap (rows_fields w) (one_on n rows r g) ∙ flat_map-append (λ x. row_fields (row (texts_in w) x)) (take n rows) (r ∷ [])))
    (λ R. sym (ap (λ xs. rows_bytes w xs R) (one_on n rows r g) ∙ ap (spell_rows R) (map_more H (take n rows) (r ∷ [])) ∙ rows_both R (map H (take n rows)) (map H (r ∷ []))))
    (writes_both w (rows_fields w (take n rows)) (rows_fields w (r ∷ [])) (rows_bytes w (take n rows)) (rows_bytes w (r ∷ [])) h (row_written w r b c d k l))

pub table_written : (w : Writer) (t : Contents) (m : Option TableId) (v : Kept) (n : ℕ) (a b c d : Output) → n ≡ length t.rows → m ≡ t.metatable
    → read_in w v ≡ metatable_value (option_map (λ (id : TableId). id.0) m) → Puts a b None (λ _. little_bytes 4 n) → Writes w b c (rows_fields w t.rows) (rows_bytes w t.rows) → Writes w c d (of_value (read_in w v) ∷ []) (item_bytes w v)
    → Writes w a d (table_fields (table (texts_in w) t)) (λ R. (table_format R).spell (record_of_table (naming_in w) (table (texts_in w) t)))
table_written w t m v n a b c d e f g h k l =
    let T = texts_in w in
    let N = naming_in w in
    let M = metatable_value (option_map (λ (id : TableId). id.0) t.metatable) in
    let q : read_in w v ≡ M = g ∙ ap (λ (m : Option TableId). metatable_value (option_map (λ (id : TableId). id.0) m)) f in
    let items = map (row_item N) (map (row T) t.rows) in
    let same_items : map (λ (r : Kept × Kept). row_item N (row T r)) t.rows ≡ items = sym (map_twice (row_item N) (row T) t.rows) in
    let count : n ≡ length items = e ∙ sym (length-map (map (row T) t.rows) (row_item N) ∙ length-map t.rows (row T)) in
    writes_as w a d (rows_fields w t.rows ++ of_value (read_in w v) ∷ []) (table_fields (table T t)) (λ R. (little_bytes 4 n ++ rows_bytes w t.rows R) ++ item_bytes w v R) (λ R. (table_format R).spell (record_of_table N (table T t)))
    (ap (λ l. l ++ of_value (read_in w v) ∷ []) (sym (flat_twice row_fields (row T) t.rows)) ∙ ap (λ u. flat_map row_fields (map (row T) t.rows) ++ of_value u ∷ []) q)
    (λ R. ap (λ n. (little_bytes 4 n ++ rows_bytes w t.rows R) ++ item_bytes w v R) count ∙ ap (λ l. (little_bytes 4 (length items) ++ spell_rows R l) ++ item_bytes w v R) same_items
    ∙ ap (λ u. (little_bytes 4 (length items) ++ spell_rows R items) ++ (item_format R).spell (item N u)) q ∙ sym (table_spelled R items (item N M)))
    (writes_both w (rows_fields w t.rows) (of_value (read_in w v) ∷ []) (λ R. little_bytes 4 n ++ rows_bytes w t.rows R) (item_bytes w v)
    (writes_both w [] (rows_fields w t.rows) (λ _. little_bytes 4 n) (rows_bytes w t.rows) h k) l)
