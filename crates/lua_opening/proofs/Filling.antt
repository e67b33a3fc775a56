-- Tables whose rows are written one after another, in memory and in the words of the definitions.
use Rattle.std.proofs.Common.{◌≡◌, ℕ, zero, suc, ◌+◌, ◌<◌, List, [], ◌∷◌, ◌++◌, map, take, length, get_or, refl, ap, sym, subst, ◌∙◌, append_assoc, arith}
use Rattle.std.specs.Prelude.{None}
use Rattle.std.proofs.lemmas.List.{map_push}
use Rattle.int_core.specs.Heap.{Table as Meant}
use Rattle.int_core.specs.Rows.{set}
use Rattle.int_core.specs.Value.{Value}
use Rattle.table_core.specs.declared.value.Value.{Value as Kept}
use Rattle.table_core.specs.Value.{lua_values}
use Rattle.table_core.specs.Table.{Contents}
use Rattle.lua_heap.specs.Adding.{Begins}
use Rattle.lua_heap.specs.Strings.{AreApart, AreShort}
use Rattle.lua_heap.specs.Reading.{value, row}
use Rattle.lua_heap.specs.Plain.{table}
use Rattle.lua_heap.specs.Law.{TablesAreRead}
use Rattle.list_laws.proofs.Items.{append_nil}
use Rattle.lua_opening.specs.Opened.{set_all, kept_all, Filled, IsTable, AreTables, AddsTable}

-- a list that begins with another is that one with more
behind : {A : Type 0} (xs ys more : List A) (b : Begins A xs ys) → ys ++ more ≡ xs ++ (b.more ++ more)
behind xs ys more b = ap (λ l. l ++ more) b.is ∙ append_assoc xs b.more more

pub begins_on : (xs ys zs : List (List ℕ)) → Begins (List ℕ) xs ys → Begins (List ℕ) ys zs → Begins (List ℕ) xs zs
begins_on xs ys zs b c = record { more = b.more ++ c.more; is = c.is ∙ behind xs ys c.more b }

-- what is read whatever strings come behind is read so again
pub read_still : (old new : List (List ℕ)) (k : Kept) (w : Value) → Begins (List ℕ) old new → ((more : List (List ℕ)) → value (old ++ more) k ≡ w) → (more : List (List ℕ)) → value (new ++ more) k ≡ w
read_still old new k w b h more = ap (λ texts. value texts k) (behind old new more b) ∙ h (b.more ++ more)

pub filled_still : (old new : List (List ℕ)) (t : Contents) (ws : List (Value × Value)) → Begins (List ℕ) old new → Filled old t ws → Filled new t ws
filled_still old new t ws b f = record {
  pairs = f.pairs;
  read = λ more. ap (λ texts. map (row texts) f.pairs) (behind old new more b) ∙ f.read (b.more ++ more);
  rows = f.rows;
  metatable = f.metatable;
}

kept_push : (rows ps : List (Kept × Kept)) (p : Kept × Kept) → kept_all rows (ps ++ p ∷ []) ≡ set lua_values (kept_all rows ps) p.0 p.1
kept_push rows [] p = refl
kept_push rows (q ∷ ps) p = kept_push (set lua_values rows q.0 q.1) ps p

pub filled_none : (texts : List (List ℕ)) (t : Contents) → t.rows ≡ [] → t.metatable ≡ None → Filled texts t []
filled_none texts t r m = record { pairs = []; read = λ more. refl; rows = r; metatable = m }

-- one row more
pub filled_more : (old new : List (List ℕ)) (t u : Contents) (ws : List (Value × Value)) (k v : Kept) (w : Value × Value) → Begins (List ℕ) old new → Filled old t ws
    → ((more : List (List ℕ)) → value (new ++ more) k ≡ w.0) → ((more : List (List ℕ)) → value (new ++ more) v ≡ w.1)
    → u.rows ≡ set lua_values t.rows k v → u.metatable ≡ t.metatable → Filled new u (ws ++ w ∷ [])
unfolding filled_still
filled_more old new t u ws k v w b f key v_is r m =
    let g = filled_still old new t ws b f in
    record {
      pairs = f.pairs ++ (k, v) ∷ [];
      read = λ more.
          map_push (row (new ++ more)) f.pairs (k, v)
          ∙ ap (λ l. l ++ row (new ++ more) (k, v) ∷ []) (g.read more)
          ∙ ap (λ x. ws ++ (x, value (new ++ more) v) ∷ []) (key more)
          ∙ ap (λ y. ws ++ (w.0, y) ∷ []) (v_is more);
      rows = r ∙ ap (λ rows. set lua_values rows k v) f.rows ∙ sym (kept_push [] f.pairs (k, v));
      metatable = m ∙ f.metatable;
    }

take_next : {A : Type 0} (f : A → Value × Value) (xs : List A) (d : A) (i : ℕ) → i < length xs → map f (take (suc i) xs) ≡ map f (take i xs) ++ f (get_or xs i d) ∷ []
take_next f [] d i h = absurd (omega (arith, h))
take_next f (x ∷ xs) d zero h = refl
take_next f (x ∷ xs) d (suc i) h = ap (λ l. f x ∷ l) (take_next f xs d i (omega (arith, h)))

pub take_more : {A : Type 0} (f : A → Value × Value) (xs : List A) (d : A) (i : ℕ) → i < length xs → map f (take (i + 1) xs) ≡ map f (take i xs) ++ f (get_or xs i d) ∷ []
take_more f xs d i h = let e : i + 1 ≡ suc i = omega arith in ap (λ n. map f (take n xs)) e ∙ take_next f xs d i h

-- as the strings read it

all_read : TablesAreRead → (texts : List (List ℕ)) → AreApart texts → AreShort texts → (rows ps : List (Kept × Kept)) → map (row texts) (kept_all rows ps) ≡ set_all (map (row texts) rows) (map (row texts) ps)
all_read law texts a s rows [] = refl
all_read law texts a s rows (p ∷ ps) =
    all_read law texts a s (set lua_values rows p.0 p.1) ps
    ∙ ap (λ rows. set_all rows (map (row texts) ps)) (sym ((law texts a s rows).written p.0 p.1))

filled_is : TablesAreRead → (texts : List (List ℕ)) → AreApart texts → AreShort texts → (t : Contents) (ws : List (Value × Value)) → Filled texts t ws → map (row texts) t.rows ≡ set_all [] ws
filled_is law texts a s t ws f =
    ap (map (row texts)) f.rows ∙ all_read law texts a s [] f.pairs
    ∙ ap (set_all []) (ap (λ texts. map (row texts) f.pairs) (sym (append_nil texts)) ∙ f.read [])

table_is : TablesAreRead → (texts : List (List ℕ)) → AreApart texts → AreShort texts → (t : Contents) (m : Meant) → IsTable texts t m → table texts t ≡ m
table_is law texts a s t m i =
    ap (λ rows. record { rows = rows; metatable = (table texts t).metatable }) (filled_is law texts a s t i.written i.filled)
    ∙ ap (λ meta. record { rows = set_all [] i.written; metatable = meta }) (ap (λ (u : Contents). (table texts u).metatable) (no_metatable t i.filled.metatable))
    ∙ sym i.is
  where
    no_metatable : (t : Contents) → t.metatable ≡ None → t ≡ record t { metatable = None }
    no_metatable t e = ap (λ meta. record t { metatable = meta }) e

pub table_still : (old new : List (List ℕ)) (t : Contents) (m : Meant) → Begins (List ℕ) old new → IsTable old t m → IsTable new t m
table_still old new t m b i = record { written = i.written; filled = filled_still old new t i.written b i.filled; is = i.is }

-- one table more
pub one_more : {old new : List (List ℕ)} {ts us : List Contents} {written : List (Value × Value)} {m : Meant} (ms : List Meant) → AreTables old ts ms → AddsTable old new ts us written → m ≡ record { rows = set_all [] written; metatable = None }
    → AreTables new us (ms ++ m ∷ [])
one_more {old} {new} {ts} {us} {written} {m} ms h a e = subst (λ us. AreTables new us (ms ++ m ∷ [])) (sym a.objects) (more ts ms h)
  where
    more : (ts : List Contents) (ms : List Meant) → AreTables old ts ms → AreTables new (ts ++ a.made ∷ []) (ms ++ m ∷ [])
    more [] [] h = (record { written = written; filled = a.filled; is = e }, tt)
    more [] (n ∷ ms) h = absurd h
    more (u ∷ ts) [] h = absurd h
    more (u ∷ ts) (n ∷ ms) h = (table_still old new u n a.strings h.0, more ts ms h.1)

pub tables_are : TablesAreRead → (texts : List (List ℕ)) → AreApart texts → AreShort texts → (ts : List Contents) (ms : List Meant) → AreTables texts ts ms → map (table texts) ts ≡ ms
tables_are law texts a s [] [] h = refl
tables_are law texts a s [] (m ∷ ms) h = absurd h
tables_are law texts a s (t ∷ ts) [] h = absurd h
tables_are law texts a s (t ∷ ts) (m ∷ ms) h = ap (λ x. x ∷ map (table texts) ts) (table_is law texts a s t m h.0) ∙ ap (λ l. m ∷ l) (tables_are law texts a s ts ms h.1)
