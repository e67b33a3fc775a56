-- An image that was spelled is read again.
use Rattle.std.proofs.Common.{arith, ℕ, zero, suc, ◌<◌, ◌^◌, ◌≡◌, ℤ, pos, negsuc, List, [], ◌∷◌, ◌++◌, Option, Some, None, refl, subst, sym, ap, ◌∙◌, length, Bool, true, false, cond, append_assoc}
use Rattle.std.specs.Prelude.{nat_eq, nat_lt, ◌&&◌}
use Rattle.std.specs.List.{list_any}
use Rattle.std.specs.Int.{w64, cast_signed, cast_unsigned}
use Rattle.std.proofs.lemmas.List.{append-nil}
use Rattle.std.proofs.lemmas.Bool.Decides.{nat_tests}
use Rattle.byteorder.specs.Endian.{little_bytes}
use Rattle.byteorder.specs.Numbers.{little_number-reads_back, length-bytes_low_first}
use Rattle.code_core.specs.Prototype.{Prototype}
use Rattle.code_core.specs.Writable.{signed_fits, is_writable}
use Rattle.chunk_format.specs.Reading as chunk
use Rattle.chunk_format.specs.Spelling as spelled
use Rattle.chunk_format.proofs.Chunks.{exact_whole}
use Rattle.chunk_format.proofs.SpelledFunctions.{whole_spelled}
use Rattle.int_core.specs.Value.{nil, boolean, integer, string, Kind, a_table, a_function, a_coroutine, bind}
use Rattle.machine_core.specs.World.{Wait, for_call, for_iterator, for_value, for_truth, dropped, for_concat, for_close, returning, leaving}
use Rattle.machine_alike.proofs.Pairwise.{bind_some}
use Rattle.image_core.specs.Image.{PermKey, number_key, text_key, Item, plain, numbered, permanent, environment, LuaFrameItem, FrameItem, lua_item, pcall_item, xpcall_item, handler_item, closing_item, Record, table_record, function_record, closed_record, open_record, fresh_record, suspended_record, dead_record, failed_record}
use Rattle.image_bytes.specs.Format.{of_kind, read, refused, and_then, IsReadBack, word, integer_of, followed, tested, second}
use Rattle.image_core.specs.Numbers.{meeting}
use Rattle.image_bytes.specs.Bytes.{Reader, text, number_of_key, text_of_key, key, sort_at, met_or, reference, named_key, key_of_sort, nil_item, false_item, true_item, integer_item, string_item, number_item, environment_item, item_body, item_format, is_table_or_nil, is_function_item, only, is_new_key, row_after, spell_rows, scan_rows, after_rows, rows_format, of_table, table_format, code_read, blob, code_format, of_function, function_format, of_closed, of_open, cell_format, is_wait, plain_wait, of_concat, of_returning, of_leaving, wait_rest, lua_parts, parts_where, lua_of, lua_format, of_lua, of_pcall, of_xpcall, of_handler, of_closing, of_none, itself, error_format, frame_format, of_fresh, of_suspended, of_dead, of_failed, coroutine_format, record_format, spell_records, scan_records, after_records, records_format, exactly, sorts_format, with_sorts, image_made, image_format, whole}
use Rattle.image_bytes.specs.ReadBack.{ImagesReadBack}
use Rattle.image_bytes.proofs.Back.{allowed_so, some_so, byte_back, raw_back, word_back, nothing_back, wrong_back, followed_back, tested_back, case_back, tagged_back, when_back, times_back, list_by_back, list_back, long_enough, drop_front, below_true}

integer_again : (n : ℤ) → signed_fits 63 n ≡ true → cast_signed w64 (cast_unsigned w64 n) ≡ n
integer_again (pos n) h = let small = below_true n (2 ^ 63) h in grind (arith, nat_tests)
integer_again (negsuc n) h = let small = below_true n (2 ^ 63) h in grind (arith, nat_tests)

unsigned_small : (n : ℤ) → signed_fits 63 n ≡ true → cast_unsigned w64 n < 256 ^ 8
unsigned_small (pos n) h = let small = below_true n (2 ^ 63) h in omega arith
unsigned_small (negsuc n) h = let small = below_true n (2 ^ 63) h in omega arith

integer_back : IsReadBack integer_of
unfolding integer_of
integer_back = record {
  back = λ met more x rest h.
      let a = allowed_so (signed_fits 63 x) met more h in
      let l = length-bytes_low_first 0 8 (cast_unsigned w64 x) in
      rw (long_enough (little_bytes 8 (cast_unsigned w64 x)) rest 8 l, little_number-reads_back 8 (cast_unsigned w64 x) rest (unsigned_small x a.0), drop_front (little_bytes 8 (cast_unsigned w64 x)) rest 8 l, integer_again x a.0, a.1) refl;
}

text_back : IsReadBack text
unfolding text
text_back = case_back (λ x y e. ap second (sym (some_so e))) (followed_back (tested_back _ _ word_back) raw_back)

key_back : IsReadBack key
unfolding key
key_back = tagged_back _ (λ t. when_back _ _ (case_back number_law integer_back) (when_back _ _ (case_back text_law text_back) (wrong_back _)))
  where
    number_law : (x : PermKey) (y : ℤ) → number_of_key x ≡ Some y → number_key y ≡ x
    number_law (number_key n) y e = ap number_key (sym (some_so e))
    number_law (text_key s) y e = absurd (cc)

    text_law : (x : PermKey) (y : List ℕ) → text_of_key x ≡ Some y → text_key y ≡ x
    text_law (number_key n) y e = absurd (cc)
    text_law (text_key s) y e = ap text_key (sym (some_so e))

reference_back : (sorts wanted : List ℕ) → IsReadBack (reference sorts wanted)
unfolding reference
reference_back sorts wanted = record { back = λ met more x rest h. go met more x rest (list_any (nat_eq (sort_at sorts x)) wanted) refl h }
  where
    go : (met more x : ℕ) (rest : List ℕ) (b : Bool) → list_any (nat_eq (sort_at sorts x)) wanted ≡ b → cond b (bind (word.after met x) (λ m. meeting (length sorts) m x)) None ≡ Some more → and_then (and_then (word.scan met (word.spell x ++ rest)) (λ n m rest. met_or (meeting (length sorts) m n) n rest)) (λ n m rest. cond (list_any (nat_eq (sort_at sorts n)) wanted) (read n m rest) (refused (of_kind 5))) ≡ read x more rest
    go met more x rest true e h =
        let m = bind_some (word.after met x) (λ m. meeting (length sorts) m x) more h in
        rw (word_back.back met m.0 x rest m.1, m.2, e) refl
    go met more x rest false e h = absurd (cc)

module _ (R : Reader) where
  named_back : (kind : Kind) → IsReadBack (named_key R kind)
  unfolding named_key
  named_back kind = tested_back _ _ key_back

  function_law : (x : Item) (y : PermKey) → key_of_sort R a_function x ≡ Some y → permanent a_function y ≡ x
  function_law (permanent a_function k) y e = ap (permanent a_function) (sym (some_so e))
  function_law _ y e = absurd (cc)

  table_law : (x : Item) (y : PermKey) → key_of_sort R a_table x ≡ Some y → permanent a_table y ≡ x
  table_law (permanent a_table k) y e = ap (permanent a_table) (sym (some_so e))
  table_law _ y e = absurd (cc)

  coroutine_law : (x : Item) (y : PermKey) → key_of_sort R a_coroutine x ≡ Some y → permanent a_coroutine y ≡ x
  coroutine_law (permanent a_coroutine k) y e = ap (permanent a_coroutine) (sym (some_so e))
  coroutine_law _ y e = absurd (cc)

  nil_law : (x : Item) (y : Unit {0}) → nil_item R x ≡ Some y → plain nil ≡ x
  nil_law (plain nil) y e = refl
  nil_law _ y e = absurd (cc)

  false_law : (x : Item) (y : Unit {0}) → false_item R x ≡ Some y → plain (boolean false) ≡ x
  false_law (plain (boolean false)) y e = refl
  false_law _ y e = absurd (cc)

  true_law : (x : Item) (y : Unit {0}) → true_item R x ≡ Some y → plain (boolean true) ≡ x
  true_law (plain (boolean true)) y e = refl
  true_law _ y e = absurd (cc)

  integer_law : (x : Item) (y : ℤ) → integer_item R x ≡ Some y → plain (integer y) ≡ x
  integer_law (plain (integer n)) y e = ap (λ n. plain (integer n)) (sym (some_so e))
  integer_law _ y e = absurd (cc)

  string_law : (x : Item) (y : List ℕ) → string_item R x ≡ Some y → plain (string y) ≡ x
  string_law (plain (string s)) y e = ap (λ n. plain (string n)) (sym (some_so e))
  string_law _ y e = absurd (cc)

  number_law : (x : Item) (y : ℕ) → number_item R x ≡ Some y → numbered y ≡ x
  number_law (plain p) y e = absurd (cc)
  number_law (numbered n) y e = ap numbered (sym (some_so e))
  number_law (permanent k n) y e = absurd (cc)
  number_law environment y e = absurd (cc)

  environment_law : (x : Item) (y : Unit {0}) → environment_item R x ≡ Some y → environment ≡ x
  environment_law (plain p) y e = absurd (cc)
  environment_law (numbered n) y e = absurd (cc)
  environment_law (permanent k n) y e = absurd (cc)
  environment_law environment y e = refl

  body_back : (t : ℕ) → IsReadBack (item_body R t)
  unfolding item_body
  body_back t =
      when_back _ _ (case_back nil_law nothing_back)
      (when_back _ _ (case_back false_law nothing_back)
      (when_back _ _ (case_back true_law nothing_back)
      (when_back _ _ (case_back integer_law integer_back)
      (when_back _ _ (case_back string_law text_back)
      (when_back _ _ (case_back number_law (reference_back R.sorts (1 ∷ 2 ∷ 4 ∷ [])))
      (when_back _ _ (case_back function_law (named_back a_function))
      (when_back _ _ (case_back table_law (named_back a_table))
      (when_back _ _ (case_back coroutine_law (named_back a_coroutine))
      (when_back _ _ (case_back environment_law nothing_back)
      (wrong_back _))))))))))

  item_back : IsReadBack (item_format R)
  unfolding item_format
  item_back = tagged_back _ body_back

  only_back : (ok : Item → Bool) → IsReadBack (only R ok)
  unfolding only
  only_back ok = tested_back _ _ item_back

  row_back : (seen : List Item) → IsReadBack (row_after R seen)
  unfolding row_after
  row_back seen = followed_back (only_back (is_new_key R seen)) (λ _. item_back)

  later_rows_back : (n : ℕ) (seen : List Item) (met more : ℕ) (rows : List (Item × Item)) (rest : List ℕ) → after_rows R n seen met rows ≡ Some more → scan_rows R n seen met (spell_rows R rows ++ rest) ≡ read rows more rest
  unfolding row_after followed only tested
  later_rows_back zero seen met more [] rest h = let e : met ≡ more = cc in rw e refl
  later_rows_back zero seen met more (x ∷ xs) rest h = absurd (cc)
  later_rows_back (suc n) seen met more [] rest h = absurd (cc)
  later_rows_back (suc n) seen met more (x ∷ xs) rest h =
      let m = bind_some ((row_after R seen).after met x) (λ m. after_rows R n (x.0 ∷ seen) m xs) more h in
      rw (append_assoc ((row_after R []).spell x) (spell_rows R xs) rest, (row_back seen).back met m.0 x (spell_rows R xs ++ rest) m.1, later_rows_back n (x.0 ∷ seen) m.0 more xs rest m.2) refl

  rows_back : (n : ℕ) → IsReadBack (rows_format R n)
  unfolding rows_format
  rows_back n = record { back = later_rows_back n [] }

  table_back : IsReadBack (table_format R)
  unfolding table_format
  table_back = case_back law (followed_back (followed_back word_back rows_back) (λ _. only_back (is_table_or_nil R)))
    where
      law : (x : Record) (y : (ℕ × List (Item × Item)) × Item) → of_table R x ≡ Some y → table_record y.0.1 y.1 ≡ x
      law (table_record rows m) y e = ap (λ z. table_record z.0.1 z.1) (sym (some_so e))
      law _ y e = absurd (cc)

  blob_back : IsReadBack (blob R)
  unfolding blob
  blob_back = case_back (λ x y e. ap second (sym (some_so e))) (followed_back word_back raw_back)

  code_back : IsReadBack (code_format R)
  unfolding code_format
  code_back = record { back = λ met more p rest h. go met more p rest (R.is_checked p) (is_writable p) refl refl h }
    where
      go : (met more : ℕ) (p : Prototype) (rest : List ℕ) (b c : Bool) → R.is_checked p ≡ b → is_writable p ≡ c → cond (b && c) ((blob R).after met (spelled.function None p)) None ≡ Some more → and_then ((blob R).scan met ((blob R).spell (spelled.function None p) ++ rest)) (λ s m rest. code_read R (chunk.read_whole s) m rest) ≡ read p more rest
      go met more p rest true true e w h =
          let f : chunk.read_whole (spelled.function None p ++ []) ≡ chunk.read p [] = exact_whole.complete p (spelled.function None p) [] (whole_spelled p w) in
          let g : chunk.read_whole (spelled.function None p) ≡ chunk.read p [] = subst (λ s. chunk.read_whole s ≡ chunk.read p []) (append-nil (spelled.function None p)) f in
          rw (blob_back.back met more (spelled.function None p) rest h, g, e) refl
      go met more p rest true false e w h = absurd (cc)
      go met more p rest false true e w h = absurd (cc)
      go met more p rest false false e w h = absurd (cc)

  function_back : IsReadBack (function_format R)
  unfolding function_format
  function_back = case_back law (followed_back code_back (λ p. followed_back (tested_back _ _ byte_back) (λ n. times_back n (reference_back R.sorts (3 ∷ [])))))
    where
      law : (x : Record) (y : Prototype × (ℕ × List ℕ)) → of_function R x ≡ Some y → function_record y.0 y.1.1 ≡ x
      law (function_record c cs) y e = ap (λ z. function_record z.0 z.1.1) (sym (some_so e))
      law _ y e = absurd (cc)

  cell_back : IsReadBack (cell_format R)
  unfolding cell_format
  cell_back = tagged_back _ (λ t.
      when_back _ _ (case_back closed_law item_back)
      (when_back _ _ (case_back open_law (followed_back (reference_back R.sorts (4 ∷ [])) (λ _. followed_back word_back (λ _. word_back))))
      (wrong_back _)))
    where
      closed_law : (x : Record) (y : Item) → of_closed R x ≡ Some y → closed_record y ≡ x
      closed_law (closed_record i) y e = ap closed_record (sym (some_so e))
      closed_law _ y e = absurd (cc)

      open_law : (x : Record) (y : ℕ × (ℕ × ℕ)) → of_open R x ≡ Some y → open_record y.0 y.1.0 y.1.1 ≡ x
      open_law (open_record a b c) y e = ap (λ z. open_record z.0 z.1.0 z.1.1) (sym (some_so e))
      open_law _ y e = absurd (cc)

  wait_law : (w x : Wait Item) (y : Unit {0}) → is_wait R w x ≡ Some y → w ≡ x
  wait_law for_call for_call y e = refl
  wait_law for_iterator for_iterator y e = refl
  wait_law for_value for_value y e = refl
  wait_law for_truth for_truth y e = refl
  wait_law dropped dropped y e = refl
  wait_law for_close for_close y e = refl
  wait_law _ _ y e = absurd (cc)

  concat_law : (x : Wait Item) (y : ℕ) → of_concat R x ≡ Some y → for_concat y ≡ x
  concat_law (for_concat n) y e = ap for_concat (sym (some_so e))
  concat_law _ y e = absurd (cc)

  returning_law : (x : Wait Item) (y : ℕ) → of_returning R x ≡ Some y → returning y ≡ x
  returning_law (returning n) y e = ap returning (sym (some_so e))
  returning_law _ y e = absurd (cc)

  leaving_law : (x : Wait Item) (y : Item) → of_leaving R x ≡ Some y → leaving y ≡ x
  leaving_law (leaving n) y e = ap leaving (sym (some_so e))
  leaving_law _ y e = absurd (cc)

  plain_wait_back : (w : Wait Item) → IsReadBack (plain_wait R w)
  unfolding plain_wait
  plain_wait_back w = case_back (wait_law w) nothing_back

  wait_back : (t : ℕ) → IsReadBack (wait_rest R t)
  unfolding wait_rest
  wait_back t =
      when_back _ _ (plain_wait_back for_call) (when_back _ _ (plain_wait_back for_iterator) (when_back _ _ (plain_wait_back for_value) (when_back _ _ (plain_wait_back for_truth) (when_back _ _ (plain_wait_back dropped)
      (when_back _ _ (case_back concat_law byte_back) (when_back _ _ (plain_wait_back for_close) (when_back _ _ (case_back returning_law word_back) (when_back _ _ (case_back leaving_law item_back) (wrong_back _)))))))))

  lua_law : (f : LuaFrameItem) (x : _) → lua_parts R f ≡ Some x → lua_of R x ≡ f
  lua_law f x h = go f.opened refl h
    where
      go : (n : ℕ) → f.opened ≡ n → parts_where R n f ≡ Some x → lua_of R x ≡ f
      go zero e h = ap (lua_of R) (sym (some_so h)) ∙ ap (λ n. record f { opened = n }) (sym e)
      go (suc n) e h = absurd (cc)

  lua_back : IsReadBack (lua_format R)
  unfolding lua_format
  lua_back = case_back lua_law
      (followed_back (only_back (is_function_item R)) (λ _. followed_back word_back (λ _. followed_back (tested_back _ _ byte_back) (λ t.
      followed_back (list_back item_back) (λ _. followed_back (list_back item_back) (λ _. followed_back (list_back word_back) (λ _. wait_back t)))))))

  error_back : IsReadBack (error_format R)
  unfolding error_format
  error_back = tagged_back _ (λ t. when_back _ _ (case_back none_law nothing_back) (when_back _ _ (case_back some_law item_back) (wrong_back _)))
    where
      none_law : (x : Option Item) (y : Unit {0}) → of_none R x ≡ Some y → None ≡ x
      none_law None y e = refl
      none_law (Some i) y e = absurd (cc)

      some_law : (x : Option Item) (y : Item) → itself R x ≡ Some y → Some y ≡ x
      some_law x y e = sym e

  frame_back : IsReadBack (frame_format R)
  unfolding frame_format
  frame_back = tagged_back _ (λ t.
      when_back _ _ (case_back lua_law lua_back)
      (when_back _ _ (case_back pcall_law nothing_back)
      (when_back _ _ (case_back xpcall_law item_back)
      (when_back _ _ (case_back handler_law nothing_back)
      (when_back _ _ (case_back closing_law (followed_back error_back (λ _. list_back item_back)))
      (wrong_back _))))))
    where
      lua_law : (x : FrameItem) (y : LuaFrameItem) → of_lua R x ≡ Some y → lua_item y ≡ x
      lua_law (lua_item f) y e = ap lua_item (sym (some_so e))
      lua_law _ y e = absurd (cc)

      xpcall_law : (x : FrameItem) (y : Item) → of_xpcall R x ≡ Some y → xpcall_item y ≡ x
      xpcall_law (xpcall_item h) y e = ap xpcall_item (sym (some_so e))
      xpcall_law _ y e = absurd (cc)

      pcall_law : (x : FrameItem) (y : Unit {0}) → of_pcall R x ≡ Some y → pcall_item ≡ x
      pcall_law pcall_item y e = refl
      pcall_law _ y e = absurd (cc)

      handler_law : (x : FrameItem) (y : Unit {0}) → of_handler R x ≡ Some y → handler_item ≡ x
      handler_law handler_item y e = refl
      handler_law _ y e = absurd (cc)

      closing_law : (x : FrameItem) (y : Option Item × List Item) → of_closing R x ≡ Some y → closing_item y.0 y.1 ≡ x
      closing_law (closing_item o vs) y e = ap (λ z. closing_item z.0 z.1) (sym (some_so e))
      closing_law _ y e = absurd (cc)

  coroutine_back : IsReadBack (coroutine_format R)
  unfolding coroutine_format
  coroutine_back = tagged_back _ (λ t.
      when_back _ _ (case_back fresh_law (only_back (is_function_item R)))
      (when_back _ _ (case_back suspended_law (list_by_back (tested_back _ _ word_back) frame_back))
      (when_back _ _ (case_back dead_law nothing_back)
      (when_back _ _ (case_back failed_law (followed_back item_back (λ _. list_back item_back)))
      (wrong_back _)))))
    where
      fresh_law : (x : Record) (y : Item) → of_fresh R x ≡ Some y → fresh_record y ≡ x
      fresh_law (fresh_record a) y e = ap fresh_record (sym (some_so e))
      fresh_law _ y e = absurd (cc)

      suspended_law : (x : Record) (y : List FrameItem) → of_suspended R x ≡ Some y → suspended_record y ≡ x
      suspended_law (suspended_record a) y e = ap suspended_record (sym (some_so e))
      suspended_law _ y e = absurd (cc)

      dead_law : (x : Record) (y : Unit {0}) → of_dead R x ≡ Some y → dead_record ≡ x
      dead_law dead_record y e = refl
      dead_law _ y e = absurd (cc)

      failed_law : (x : Record) (y : Item × List Item) → of_failed R x ≡ Some y → failed_record y.0 y.1 ≡ x
      failed_law (failed_record a b) y e = ap (λ z. failed_record z.0 z.1) (sym (some_so e))
      failed_law _ y e = absurd (cc)

  record_back : (t : ℕ) → IsReadBack (record_format R t)
  unfolding record_format
  record_back t = when_back _ _ table_back (when_back _ _ function_back (when_back _ _ cell_back (when_back _ _ coroutine_back (wrong_back _))))

  records_from_back : (ss : List ℕ) (at met more : ℕ) (rs : List Record) (rest : List ℕ) → after_records R at ss met rs ≡ Some more → scan_records R at ss met (spell_records R ss rs ++ rest) ≡ read rs more rest
  records_from_back [] at met more [] rest h = let e : met ≡ more = cc in rw e refl
  records_from_back [] at met more (r ∷ rs) rest h = absurd (cc)
  records_from_back (t ∷ ss) at met more [] rest h = absurd (cc)
  records_from_back (t ∷ ss) at met more (r ∷ rs) rest h = go (nat_lt at met) h (λ m k. records_from_back ss (suc at) m more rs rest k)
    where
      go : (b : Bool) → cond b (bind ((record_format R t).after met r) (λ m. after_records R (suc at) ss m rs)) None ≡ Some more → ((m : ℕ) → after_records R (suc at) ss m rs ≡ Some more → scan_records R (suc at) ss m (spell_records R ss rs ++ rest) ≡ read rs more rest)
          → cond b (and_then ((record_format R t).scan met (((record_format R t).spell r ++ spell_records R ss rs) ++ rest)) (λ r m rest. and_then (scan_records R (suc at) ss m rest) (λ rs k left. read (r ∷ rs) k left))) (refused (of_kind 4)) ≡ read (r ∷ rs) more rest
      go false h ih = absurd (cc)
      go true h ih =
          let m = bind_some ((record_format R t).after met r) (λ m. after_records R (suc at) ss m rs) more h in
          rw (append_assoc ((record_format R t).spell r) (spell_records R ss rs) rest, (record_back t).back met m.0 r (spell_records R ss rs ++ rest) m.1, ih m.0 m.2) refl

  records_back : IsReadBack (records_format R)
  unfolding records_format
  records_back = record { back = λ met more rs rest h. records_from_back R.sorts 0 met more rs rest h }

exactly_back : (n kind : ℕ) → IsReadBack (exactly n kind)
unfolding exactly
exactly_back n kind = tested_back _ _ byte_back

sorts_back : IsReadBack sorts_format
unfolding sorts_format
sorts_back = list_by_back word_back (tested_back _ _ byte_back)

image_back : (R : Reader) (n : ℕ) → IsReadBack (image_format R n)
unfolding image_format
image_back R n = case_back (λ x y e. ap image_made (sym (some_so e)))
    (followed_back (exactly_back 76 1) (λ _. followed_back (exactly_back 85 1) (λ _. followed_back (exactly_back 73 1) (λ _. followed_back (exactly_back 77 1) (λ _. followed_back (exactly_back 1 2) (λ _.
    followed_back sorts_back (λ sorts.
    followed_back (followed_back (exactly_back n 4) (λ m. times_back m (item_back (with_sorts R sorts)))) (λ _.
    records_back (with_sorts R sorts)))))))))

pub images_read_back : ImagesReadBack
images_read_back R I met h =
    let n = length I.roots in
    let e = (image_back R n).back 0 met I [] h in
    let f : (image_format R n).scan 0 ((image_format R n).spell I) ≡ read I met [] = subst (λ s. (image_format R n).scan 0 s ≡ read I met []) (append-nil ((image_format R n).spell I)) e in
    ap whole f
