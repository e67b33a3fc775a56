-- A new string changes nothing of a sound world.
use Rattle.std.proofs.Common.{◌≡◌, ℕ, suc, List, [], ◌∷◌, ◌++◌, map, Option, Some, None, Bool, true, false, refl, ap, sym, subst, ◌∙◌}
use Rattle.std.specs.Prelude.{bytes_eq, if◌then◌else◌}
use Rattle.std.specs.List.{list_all, list_any}
use Rattle.code_core.specs.declared.proto.Const.{Const}
use Rattle.code_core.specs.declared.proto.Const.TheVariants.{Str as Text}
use Rattle.code_core.specs.Prototype.{Parts, Prototype}
use Rattle.code_core.specs.Check.{IsChecked}
use Rattle.code_core.specs.Writable.{number_fits, name_fits, byte_fits, word_fits, constant_fits, lists_fit, parts_fit}
use Rattle.code_core.proofs.CheckedLemmas.{first_of_two, rest_of, described_is_writable}
use Rattle.machine_core.specs.Text.{constant}
use Rattle.machine_sound.proofs.Values.{both_of, le_of}
use Rattle.int_core.specs.Value.{known, string}
use Rattle.machine_core.specs.World.{leaving, LuaFrame, lua, xpcall, closing, closed, Coroutine, fresh, suspended, in_progress, normal, failed, World}
use Rattle.machine_sound.specs.Sound.{Sizes, sizes, Each, Valid, WaitOk, LuaOk, FrameOk, CoroutineOk, CellOk, TableOk, OptionOk, Solid, Sound}
use Rattle.table_core.specs.Table.{Contents}
use Rattle.table_core.specs.declared.value.Value.{Value as Kept}
use Rattle.table_core.specs.declared.value.Value.TheVariants.{Str}
use Rattle.lua_stack.specs.declared.frame.Wait.{Wait as KeptWait}
use Rattle.lua_stack.specs.declared.frame.Wait.TheVariants.{Leaving}
use Rattle.lua_stack.specs.Frames.{wait_of, lua_of, error_of, frame_of, frames, KeptLua, KeptFrame, kept_lua, kept_pcall, kept_xpcall, kept_handler, kept_closing, KeptStack}
use Rattle.lua_heap.specs.declared.world.Cell.{Cell as KeptCell}
use Rattle.lua_heap.specs.declared.world.Cell.TheVariants.{Closed, Open}
use Rattle.lua_heap.specs.declared.world.Coro.{Coro}
use Rattle.lua_heap.specs.declared.world.Coro.TheVariants.{Fresh, Suspended, Running, Normal, Dead, Failed}
use Rattle.lua_heap.specs.declared.world.World.{World as Memory}
use Rattle.lua_heap.specs.declared.codes.Code.{Code}
use Rattle.lua_heap.specs.declared.codes.Codes.{Codes}
use Rattle.lua_heap.specs.Strings.{interned}
use Rattle.lua_heap.specs.Reading.{text_of, value}
use Rattle.lua_heap.specs.Codes.{IsCode, AreCodes}
use Rattle.lua_heap.specs.Plain.{table, cell, coroutine, plain}
use Rattle.lua_heap.specs.Changes.{Interns}
use Rattle.lua_heap.proofs.Reading.{value_stays, values_stay, rows_stay}

-- what holds of each item on the one side may be used to go over to the other
pub each_stays : {A B : Type 0} (f g : A → B) (P : B → Type 0) → ((a : A) → P (g a) → f a ≡ g a) → (xs : List A) → Each P (map g xs) → map f xs ≡ map g xs
each_stays f g P step [] h = refl
each_stays f g P step (a ∷ xs) h =
    ap (λ b. b ∷ map f xs) (step a (h 0 (g a) refl)) ∙ ap (λ bs. g a ∷ bs) (each_stays f g P step xs (λ i b e. h (suc i) b e))

module _ (z : Sizes) (texts : List (List ℕ)) (s : List ℕ) where
  abbrev now : List (List ℕ)
  now = texts ++ s ∷ []

  table_stays : (t : Contents) → TableOk z (table texts t) → table now t ≡ table texts t
  table_stays t h = ap (λ rows. record (table texts t) { rows = rows }) (rows_stay z texts s t.rows h.rows)

  wait_stays : (w : KeptWait) → WaitOk z (wait_of (value texts) w) → wait_of (value now) w ≡ wait_of (value texts) w
  wait_stays (Leaving e) h = ap leaving (value_stays z texts s e h)
  wait_stays _ h = refl

  error_stays : (e : Option Kept) → OptionOk (Valid z) (error_of (value texts) e) → error_of (value now) e ≡ error_of (value texts) e
  error_stays None h = refl
  error_stays (Some e) h = ap (λ v. Some v) (value_stays z texts s e h)

  lua_stays : (t : KeptLua) → LuaOk z (lua_of (value texts) t) → lua_of (value now) t ≡ lua_of (value texts) t
  lua_stays t h =
      let f : LuaFrame = lua_of (value now) t in
      let g : LuaFrame = lua_of (value texts) t in
      ap (λ w. record f { wait = w }) (wait_stays t.wait h.error)
      ∙ ap (λ vs. record f { wait = g.wait; own = record f.own { registers = vs } }) (values_stay z texts s t.registers h.registers)
      ∙ ap (λ vs. record f { wait = g.wait; own = record f.own { registers = g.own.registers; varargs = vs } }) (values_stay z texts s t.varargs h.varargs)

  frame_stays : (f : KeptFrame) → FrameOk z (frame_of (value texts) f) → frame_of (value now) f ≡ frame_of (value texts) f
  frame_stays (kept_lua t) h = ap lua (lua_stays t h)
  frame_stays kept_pcall h = refl
  frame_stays (kept_xpcall v) h = ap xpcall (value_stays z texts s v h)
  frame_stays kept_handler h = refl
  frame_stays (kept_closing e left) h =
      ap (λ o. closing o (map (value now) left)) (error_stays e h.0)
      ∙ ap (λ vs. closing (error_of (value texts) e) vs) (values_stay z texts s left h.1)

  frames_stay : (k : KeptStack) → Each (FrameOk z) (frames (value texts) k) → frames (value now) k ≡ frames (value texts) k
  frames_stay k h = each_stays (frame_of (value now)) (frame_of (value texts)) (FrameOk z) frame_stays k.frames h

  coroutine_stays : (c : Coro) → CoroutineOk z (coroutine texts c) → coroutine now c ≡ coroutine texts c
  coroutine_stays (Fresh v) h = ap fresh (value_stays z texts s v h.0)
  coroutine_stays (Suspended k) h = ap suspended (frames_stay k h.right.each)
  coroutine_stays (Running k) h = ap in_progress (frames_stay k h.each)
  coroutine_stays (Normal k) h = ap normal (frames_stay k h.right.each)
  coroutine_stays Dead h = refl
  coroutine_stays (Failed e pending) h =
      ap (λ v. failed v (map (value now) pending.items)) (value_stays z texts s e h.0)
      ∙ ap (λ vs. failed (value texts e) vs) (values_stay z texts s pending.items h.1)

  module _ (coroutines : List Coroutine) where
    cell_stays : (c : KeptCell) → CellOk z coroutines (cell texts c) → cell now c ≡ cell texts c
    cell_stays (Closed v) h = ap closed (value_stays z texts s v h)
    cell_stays (Open coro frame register) h = refl

known_text : (a b : List ℕ) → known (string a) ≡ known (string b) → a ≡ b
known_text a b e = cc

pub plain_stays : (primitives fuel : ℕ) (W : Memory) (s : List ℕ) → Solid primitives (plain W fuel) → plain (record W { strings = W.strings ++ s ∷ [] }) fuel ≡ plain W fuel
plain_stays primitives fuel W s h =
    let texts : List (List ℕ) = W.strings in
    let V : World = plain W fuel in
    let now : List (List ℕ) = texts ++ s ∷ [] in
    let z : Sizes = sizes primitives V in
    let N : World = plain (record W { strings = now }) fuel in
    let tables = each_stays (table now) (table texts) (TableOk z) (table_stays z texts s) W.tables.objects h.tables in
    let cells = each_stays (cell now) (cell texts) (CellOk z V.coroutines) (cell_stays z texts s V.coroutines) W.cells.objects h.cells in
    let coroutines = each_stays (coroutine now) (coroutine texts) (CoroutineOk z) (coroutine_stays z texts s) W.coros.objects h.coroutines in
    let key : text_of now W.spkey.0 ≡ text_of texts W.spkey.0 = known_text _ _ (value_stays z texts s (Str W.spkey) h.roots.special_key) in
    let moving = values_stay z texts s W.moving.items h.moving in
    ap (λ ts. record N { heap = record N.heap { tables = ts } }) tables
    ∙ ap (λ cs. record N { heap = V.heap; cells = cs }) cells
    ∙ ap (λ cs. record N { heap = V.heap; cells = V.cells; coroutines = cs }) coroutines
    ∙ ap (λ k. record N { heap = V.heap; cells = V.cells; coroutines = V.coroutines; special_key = k }) key
    ∙ ap (λ vs. record N { heap = V.heap; cells = V.cells; coroutines = V.coroutines; special_key = V.special_key; moving = vs }) moving

-- code stays what it was

none_there : Sizes
none_there = record { primitives = 0; tables = 0; functions = []; cells = 0; coroutines = 0 }

constant_valid : (k : Const) → constant_fits k ≡ true → Valid none_there (known (constant k))
constant_valid (Text bytes) h = le_of _ _ h
constant_valid _ h = tt

pub constants_stay : (texts : List (List ℕ)) (s : List ℕ) (cs : List Kept) (ks : List Const) → list_all constant_fits ks ≡ true
    → map (value texts) cs ≡ map (λ k. known (constant k)) ks → map (value (texts ++ s ∷ [])) cs ≡ map (value texts) cs
constants_stay texts s [] ks h e = refl
constants_stay texts s (c ∷ cs) [] h e = absurd (cc)
constants_stay texts s (c ∷ cs) (k ∷ ks) h e =
    let here : value texts c ≡ known (constant k) = cc in
    let rest : map (value texts) cs ≡ map (λ k. known (constant k)) ks = cc in
    let valid : Valid none_there (value texts c) = subst (Valid none_there) (sym here) (constant_valid k (both_of _ _ h).0) in
    ap (λ v. v ∷ map (value (texts ++ s ∷ [])) cs) (value_stays none_there texts s c valid)
    ∙ ap (λ vs. value texts c ∷ vs) (constants_stay texts s cs ks (both_of _ _ h).1 rest)

pub constants_fit : (p : Prototype) → IsChecked p → list_all constant_fits p.own.constants ≡ true
constants_fit p h =
    let own : Parts = p.own in
    let parts : parts_fit own ≡ true = first_of_two (parts_fit own) _ (described_is_writable p h.code.described) in
    let numbers = rest_of (number_fits own.last_line) (rest_of (number_fits own.line_defined) (rest_of (name_fits own.source) parts)) in
    let bytes = rest_of (byte_fits own.stack) (rest_of (byte_fits own.params) numbers) in
    let entries = rest_of (lists_fit own) bytes in
    first_of_two (list_all constant_fits own.constants) _ (rest_of (list_all word_fits own.code) entries)

pub code_stays : (texts : List (List ℕ)) (s : List ℕ) (n : ℕ) (p : Prototype) (code : Code) → IsCode texts n p code → IsCode (texts ++ s ∷ []) n p code
code_stays texts s n p code k = record {
  checked = k.checked;
  words = k.words;
  constants = constants_stay texts s code.constants.items p.own.constants (constants_fit p k.checked) k.constants ∙ k.constants;
  stack = k.stack;
  params = k.params;
  vararg = k.vararg;
  upvalues = k.upvalues;
  inner = k.inner;
}

codes_stay : (texts : List (List ℕ)) (s : List ℕ) (codes : Codes) → AreCodes texts codes → AreCodes (texts ++ s ∷ []) codes
codes_stay texts s codes h = record {
  count = h.count;
  firsts = h.firsts;
  each = λ n p code e f. code_stays texts s n p code (h.each n p code e f);
}

-- whether the string was there or not
plain_by : (primitives fuel : ℕ) (W : Memory) (s : List ℕ) (b : Bool) → Sound primitives (plain W fuel) → plain (record W { strings = if b then W.strings else W.strings ++ s ∷ [] }) fuel ≡ plain W fuel
plain_by primitives fuel W s true h = refl
plain_by primitives fuel W s false h = plain_stays primitives fuel W s h.solid

codes_by : (texts : List (List ℕ)) (s : List ℕ) (codes : Codes) (b : Bool) → AreCodes texts codes → AreCodes (if b then texts else texts ++ s ∷ []) codes
codes_by texts s codes true h = h
codes_by texts s codes false h = codes_stay texts s codes h

pub interns : (old new : Memory) (text : List ℕ) → new ≡ record old { strings = interned old.strings text } → Interns old new text
interns old new text e =
    let there : Bool = list_any (bytes_eq text) old.strings in
    let same : record old { strings = interned old.strings text } ≡ new = sym e in
    subst (λ (W : Memory). Interns old W text) same (record {
      strings = refl;
      rest = refl;
      plain = λ primitives fuel h. plain_by primitives fuel old text there h;
      codes = λ h. codes_by old.strings text old.codes there h;
    })
