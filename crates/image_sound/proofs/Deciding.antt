-- What a reader accepts is the image of a sound world.
use Rattle.std.proofs.Common.{arith, ℕ, zero, suc, ◌<◌, ◌≡◌, List, [], ◌∷◌, Option, Some, None, refl, subst, sym, ap, ◌∙◌, length, map, Bool, true, false, cond}
use Rattle.std.specs.Prelude.{nat_eq, nat_lt, ◌&&◌, not, slice_get, IsTrue}
use Rattle.std.specs.List.{list_all, list_any}
use Rattle.std.proofs.lemmas.Bool.Decides.{nat_tests}
use Rattle.code_core.specs.Instruction.{opcode_of}
use Rattle.code_core.specs.Prototype.{Prototype}
use Rattle.code_core.specs.Check.{at}
use Rattle.int_core.specs.Value.{Plain, nil, boolean, integer, string, primitive, a_function, bind}
use Rattle.int_core.specs.Operations.{is_function}
use Rattle.machine_core.specs.World.{Wait, leaving}
use Rattle.machine_sound.specs.Sound.{Each, OptionOk, waits_at, waiting_size, kept_below}
use Rattle.image_core.specs.Image.{PermKey, Item, plain, numbered, permanent, environment, LuaFrameItem, FrameItem, lua_item, pcall_item, xpcall_item, handler_item, closing_item, Record, table_record, function_record, closed_record, open_record, fresh_record, suspended_record, dead_record, failed_record, no_record, Image}
use Rattle.image_core.specs.Loading.{is_cell, kind_in, numbered_value, value_made}
use Rattle.image_bytes.specs.Format.{Got, read, refused, of_kind}
use Rattle.image_bytes.specs.Bytes.{Reader, sort_at, sort_byte, with_sorts, is_function_item, read_image}
use Rattle.image_sound.specs.Reads.{PlainRead, ItemRead, All, RowRead, WaitRead, LuaRead, ErrorRead, FrameRead, RecordRead}
use Rattle.image_sound.specs.SoundImage.{Host, PlainFits, ItemFits, CodeIs, WaitFits, LuaFits, FrameFits, OpenFits, RecordFits}
use Rattle.image_sound.specs.Fitting.{code_in, code_of_item, fits_instruction, fits_code, lua_fits, frame_fits, frames_in, lua_frame_in, register_there, record_fits, is_open_record, opened_again, opened_once, all_fit, with_fits, IsReaderOf, AcceptedIsSound}
use Rattle.image_sound.proofs.Given.{read_images_right, numbers_name_records}
use Rattle.int_core.proofs.Equality.{number_self, number_is}

-- tests that went through

both_true : (a b : Bool) → a && b ≡ true → (a ≡ true) × (b ≡ true)
both_true true b h = (refl, h)
both_true false b h = absurd (cc)

some_true : {A : Type 0} (o : Option A) (g : A → Bool) → elim o [ None ↦ false | Some x ↦ g x ] ≡ true → (x : A) × (o ≡ Some x) × (g x ≡ true)
some_true None g h = absurd (cc)
some_true (Some x) g h = (x, refl, h)

bind_some : {A B : Type 0} (o : Option A) (g : A → Option B) (y : B) → bind o g ≡ Some y → (x : A) × (o ≡ Some x) × (g x ≡ Some y)
bind_some None g y h = absurd (cc)
bind_some (Some x) g y h = (x, refl, h)

is_true : {b : Bool} → b ≡ true → IsTrue b
is_true h = h

each_all : {A : Type 0} {P : A → Type 0} {Q : A → Type 0} → ((x : A) → P x → Q x) → (xs : List A) → All P xs → Each Q xs
each_all f [] h i x e = absurd (cc)
each_all {Q = Q} f (y ∷ xs) h zero x e = let k : y ≡ x = cc in subst Q k (f y h.0)
each_all f (y ∷ xs) h (suc i) x e = each_all f xs h.1 i x e

each_test : {A : Type 0} {Q : A → Type 0} (p : A → Bool) → ((x : A) → p x ≡ true → Q x) → (xs : List A) → list_all p xs ≡ true → Each Q xs
each_test p f [] h i x e = absurd (cc)
each_test {Q = Q} p f (y ∷ xs) h zero x e = let k : y ≡ x = cc in subst Q k (f y (both_true (p y) (list_all p xs) h).0)
each_test p f (y ∷ xs) h (suc i) x e = each_test p f xs (both_true (p y) (list_all p xs) h).1 i x e

below : (n r : ℕ) → nat_lt r n ≡ true → r < n
below n r h = grind (arith, nat_tests)

-- a number that was read as that of a cell, or of a function

cell_named : (rs : List Record) (n : ℕ) → list_any (nat_eq (sort_at (map sort_byte rs) n)) (3 ∷ []) ≡ true → (r : Record) × (slice_get rs n ≡ Some r) × (is_cell r ≡ true)
cell_named [] n h = absurd (cc)
cell_named (r ∷ rs) zero h = by_record r h
  where
    by_record : (r : Record) → list_any (nat_eq (sort_byte r)) (3 ∷ []) ≡ true → (x : Record) × (Some r ≡ Some x) × (is_cell x ≡ true)
    by_record (closed_record i) h = (closed_record i, refl, refl)
    by_record (open_record a b c) h = (open_record a b c, refl, refl)
    by_record _ h = absurd (cc)
cell_named (r ∷ rs) (suc n) h = cell_named rs n h

function_named : (rs : List Record) (n : ℕ) → nat_eq (sort_at (map sort_byte rs) n) 2 ≡ true → bind (slice_get rs n) kind_in ≡ Some a_function
function_named [] n h = absurd (cc)
function_named (r ∷ rs) zero h = by_record r h
  where
    by_record : (r : Record) → nat_eq (sort_byte r) 2 ≡ true → kind_in r ≡ Some a_function
    by_record (function_record c cs) h = refl
    by_record _ h = absurd (cc)
function_named (r ∷ rs) (suc n) h = function_named rs n h

module _ (R : Reader) (code_named : PermKey → Option Prototype) (H : Host) (of : IsReaderOf R code_named H) where
  abbrev S : Reader
  S = with_sorts R (map sort_byte H.records)

  plain_fits : (p : Plain) → PlainRead p → PlainFits H p
  plain_fits nil h = tt
  plain_fits (boolean b) h = tt
  plain_fits (integer n) h = tt
  plain_fits (string s) h = h
  plain_fits (primitive n) h = absurd h

  item_fits : (i : Item) → ItemRead S i → ItemFits H i
  item_fits (plain p) h = plain_fits p h
  item_fits (numbered n) h = numbers_name_records H.records n h
  item_fits (permanent kind key) h = of.there kind key h
  item_fits environment h = tt

  row_fits : (row : Item × Item) → RowRead S row → ItemFits H row.0 × ItemFits H row.1
  row_fits row h = (item_fits row.0 h.0, item_fits row.1 h.1)

  function_fits : (i : Item) → is_function_item S i ≡ true → ItemRead S i → IsTrue (is_function (value_made H.target H.records i))
  function_fits (numbered n) f h = is_true (ap (λ o. is_function (numbered_value H.target H.records n o)) (function_named H.records n f))
  function_fits (permanent a_function key) f h = of.functions key h
  function_fits _ f h = absurd (cc)

  code_is : (i : Item) (p : Prototype) → code_of_item code_named H.records i ≡ Some p → CodeIs H i p
  code_is (numbered n) p h = by_record (bind_some (slice_get H.records n) code_in p h)
    where
      by_record : (r : Record) × (slice_get H.records n ≡ Some r) × (code_in r ≡ Some p) → (cells : List ℕ) × (slice_get H.records n ≡ Some (function_record p cells))
      by_record (table_record rows m, e, k) = absurd (cc)
      by_record (function_record c cs, e, k) = let q : c ≡ p = cc in (cs, e ∙ ap (λ c. Some (function_record c cs)) q)
      by_record (closed_record i, e, k) = absurd (cc)
      by_record (open_record a b c, e, k) = absurd (cc)
      by_record (fresh_record i, e, k) = absurd (cc)
      by_record (suspended_record fs, e, k) = absurd (cc)
      by_record (dead_record, e, k) = absurd (cc)
      by_record (failed_record x vs, e, k) = absurd (cc)
      by_record (no_record, e, k) = absurd (cc)
  code_is (permanent a_function key) p h = of.code key p h
  code_is _ p h = absurd (cc)

  wait_fits : (w : Wait Item) → WaitRead S w → WaitFits H w
  wait_fits (leaving e) h = item_fits e h
  wait_fits _ h = tt

  lua_is : (f : LuaFrameItem) → LuaRead S f → lua_fits code_named H.records f ≡ true → LuaFits H f
  lua_is f h t =
      let p = some_true (code_of_item code_named H.records f.function) (fits_code f) t in
      let w = some_true (at p.0 f.pc) (fits_instruction p.0 f) p.2 in
      let o = some_true (opcode_of w.0) (λ op. waits_at f.wait op w.0 && (nat_eq (length f.registers) (waiting_size f.wait w.0 p.0.own.stack) && (list_all (λ r. nat_lt r p.0.own.stack) f.pending && list_all (λ r. nat_lt r (kept_below f.wait w.0 p.0.own.stack)) f.pending))) w.2 in
      let a = both_true (waits_at f.wait o.0 w.0) _ o.2 in
      let b = both_true (nat_eq (length f.registers) (waiting_size f.wait w.0 p.0.own.stack)) _ a.1 in
      let c = both_true (list_all (λ r. nat_lt r p.0.own.stack) f.pending) _ b.1 in
      record {
        code = p.0;
        is_code = code_is f.function p.0 p.1;
        instruction = w.0;
        at_pc = w.1;
        opcode = o.0;
        is_opcode = o.1;
        fits = is_true a.0;
        size = number_is _ _ b.0;
        pending = each_test (λ r. nat_lt r p.0.own.stack) (below p.0.own.stack) f.pending c.0;
        kept = each_test (λ r. nat_lt r (kept_below f.wait w.0 p.0.own.stack)) (below (kept_below f.wait w.0 p.0.own.stack)) f.pending c.1;
        opened = h.opened;
        registers = each_all item_fits f.registers h.registers;
        varargs = each_all item_fits f.varargs h.varargs;
        error = wait_fits f.wait h.error;
      }

  error_fits : (e : Option Item) → ErrorRead S e → OptionOk (ItemFits H) e
  error_fits None h = tt
  error_fits (Some e) h = item_fits e h

  frame_is : (f : FrameItem) → FrameRead S f → frame_fits code_named H.records f ≡ true → FrameFits H f
  frame_is (lua_item f) h t = lua_is f h t
  frame_is pcall_item h t = tt
  frame_is (xpcall_item v) h t = item_fits v h
  frame_is handler_item h t = tt
  frame_is (closing_item e left) h t = (error_fits e h.0, each_all item_fits left h.1)

  frames_are : (fs : List FrameItem) → All (FrameRead S) fs → list_all (frame_fits code_named H.records) fs ≡ true → Each (FrameFits H) fs
  frames_are [] h t i x e = absurd (cc)
  frames_are (f ∷ fs) h t zero x e = let k : f ≡ x = cc in subst (FrameFits H) k (frame_is f h.0 (both_true (frame_fits code_named H.records f) _ t).0)
  frames_are (f ∷ fs) h t (suc i) x e = frames_are fs h.1 (both_true (frame_fits code_named H.records f) _ t).1 i x e

  open_is : (co frame register : ℕ) → register_there H.records co frame register ≡ true → OpenFits H co frame register
  open_is co frame register t =
      let f = some_true (bind (bind (bind (slice_get H.records co) frames_in) (λ fs. slice_get fs frame)) lua_frame_in) (λ f. nat_lt register (length f.registers)) t in
      let g = bind_some (bind (bind (slice_get H.records co) frames_in) (λ fs. slice_get fs frame)) lua_frame_in f.0 f.1 in
      let fs = bind_some (bind (slice_get H.records co) frames_in) (λ fs. slice_get fs frame) g.0 g.1 in
      let r = bind_some (slice_get H.records co) frames_in fs.0 fs.1 in
      record {
        frames = fs.0;
        f = f.0;
        is_coroutine = r.1 ∙ ap Some (suspended_is r.0 fs.0 r.2);
        is_frame = fs.2 ∙ ap Some (lua_frame_is g.0 f.0 g.2);
        within = below (length f.0.registers) register f.2;
      }
    where
      suspended_is : (r : Record) (fs : List FrameItem) → frames_in r ≡ Some fs → r ≡ suspended_record fs
      suspended_is (suspended_record gs) fs e = let k : gs ≡ fs = cc in ap suspended_record k
      suspended_is _ fs e = absurd (cc)

      lua_frame_is : (g : FrameItem) (f : LuaFrameItem) → lua_frame_in g ≡ Some f → g ≡ lua_item f
      lua_frame_is (lua_item h) f e = let k : h ≡ f = cc in ap lua_item k
      lua_frame_is _ f e = absurd (cc)

  record_is : (r : Record) → RecordRead S r → record_fits code_named H.records r ≡ true → RecordFits H r
  record_is (table_record rows m) h t = (each_all row_fits rows h.0, item_fits m h.1)
  record_is (function_record code cells) h t = (of.checked code h.0, sym h.1, each_all (cell_named H.records) cells h.2)
  record_is (closed_record i) h t = item_fits i h
  record_is (open_record co frame register) h t = open_is co frame register t
  record_is (fresh_record body) h t = (item_fits body h.1, function_fits body h.0 h.1)
  record_is (suspended_record frames) h t = (frames_are frames h.0 t, h.1)
  record_is dead_record h t = tt
  record_is (failed_record e pending) h t = (item_fits e h.0, each_all item_fits pending h.1)
  record_is no_record h t = absurd h

  records_are : (rs : List Record) → All (RecordRead S) rs → list_all (record_fits code_named H.records) rs ≡ true → Each (RecordFits H) rs
  records_are [] h t i x e = absurd (cc)
  records_are (r ∷ rs) h t zero x e = let k : r ≡ x = cc in subst (RecordFits H) k (record_is r h.0 (both_true (record_fits code_named H.records r) _ t).0)
  records_are (r ∷ rs) h t (suc i) x e = records_are rs h.1 (both_true (record_fits code_named H.records r) _ t).1 i x e

-- open cells stand once each

any_at : {A : Type 0} (p : A → Bool) (xs : List A) (i : ℕ) (x : A) → slice_get xs i ≡ Some x → p x ≡ true → list_any p xs ≡ true
any_at p [] i x e h = absurd (cc)
any_at p (y ∷ xs) zero x e h = let k : y ≡ x = cc in ap (λ b. Rattle.std.specs.Prelude.◌||◌ b (list_any p xs)) (ap p k ∙ h)
any_at p (y ∷ xs) (suc i) x e h = by (p y) (any_at p xs i x e h)
  where
    by : (b : Bool) → list_any p xs ≡ true → Rattle.std.specs.Prelude.◌||◌ b (list_any p xs) ≡ true
    by true k = refl
    by false k = k

its_place : (co frame register : ℕ) → is_open_record co frame register (open_record co frame register) ≡ true
its_place co frame register = rw (number_self co, number_self frame, number_self register) refl

not_again : (rs : List Record) (i co frame register : ℕ) → not (list_any (is_open_record co frame register) rs) ≡ true → slice_get rs i ≡ Some (open_record co frame register) → ⊥
not_again rs i co frame register t e = let a = any_at (is_open_record co frame register) rs i _ e (its_place co frame register) in false_true (ap not (sym a) ∙ t)
  where
    false_true : false ≡ true → ⊥
    false_true e = cc

once : (rs : List Record) → opened_once rs ≡ true → (i j co frame register : ℕ) → slice_get rs i ≡ Some (open_record co frame register) → slice_get rs j ≡ Some (open_record co frame register) → i ≡ j
once [] t i j co frame register e f = absurd (cc)
once (r ∷ rs) t zero zero co frame register e f = refl
once (r ∷ rs) t zero (suc j) co frame register e f =
    let k : r ≡ open_record co frame register = cc in
    let b = both_true (not (opened_again r rs)) (opened_once rs) t in
    absurd (not_again rs j co frame register (ap (λ r. not (opened_again r rs)) (sym k) ∙ b.0) f)
once (r ∷ rs) t (suc i) zero co frame register e f =
    let k : r ≡ open_record co frame register = cc in
    let b = both_true (not (opened_again r rs)) (opened_once rs) t in
    absurd (not_again rs i co frame register (ap (λ r. not (opened_again r rs)) (sym k) ∙ b.0) e)
once (r ∷ rs) t (suc i) (suc j) co frame register e f = ap suc (once rs (both_true (not (opened_again r rs)) (opened_once rs) t).1 i j co frame register e f)

-- the whole

fitted : (code_named : PermKey → Option Prototype) (got : Got Image) (I : Image) (met : ℕ) → with_fits code_named got ≡ read I met [] → (got ≡ read I met []) × (all_fit code_named I.records ≡ true)
fitted code_named (refused fault) I met e = absurd (cc)
fitted code_named (read J m rest) I met e = by (all_fit code_named J.records) refl e
  where
    by : (b : Bool) → all_fit code_named J.records ≡ b → cond b (read J m rest) (refused (of_kind 9)) ≡ read I met [] → (read J m rest ≡ read I met []) × (all_fit code_named I.records ≡ true)
    by true h e = let k : J ≡ I = cc in (e, subst (λ I. all_fit code_named I.records ≡ true) k h)
    by false h e = absurd (cc)

pub accepted_is_sound : AcceptedIsSound
accepted_is_sound R code_named H roots met I bytes of same e =
    let f = fitted code_named (read_image R roots bytes) I met e in
    let h = read_images_right R roots met I bytes f.0 in
    let t = both_true (list_all (record_fits code_named H.records) H.records) (opened_once H.records) (subst (λ rs. all_fit code_named rs ≡ true) (sym same) f.1) in
    record {
      records = records_are R code_named H of H.records (subst (λ rs. All (RecordRead (with_sorts R (map sort_byte rs))) rs) (sym same) h.records_read) t.0;
      one_each = once H.records t.1;
    }
