-- Values that are written to registers behind nils.
use Rattle.std.proofs.Common.{◌≡◌, ℕ, zero, suc, ◌≤◌, ◌<◌, List, [], ◌∷◌, length, take, drop, refl, ap, sym, ◌∙◌, arith}
use Rattle.int_core.specs.Value.{Value, known, nil, nth, range, write, write_all}
use Rattle.machine_core.specs.Text.{nils}

-- one register after another

write_twice : (at : ℕ) (v w : Value) (xs : List Value) → write at v (write at w xs) ≡ write at v xs
write_twice zero v w [] = refl
write_twice zero v w (x ∷ xs) = refl
write_twice (suc at) v w [] = ap (λ l. known nil ∷ l) (write_twice at v w [])
write_twice (suc at) v w (x ∷ xs) = ap (λ l. x ∷ l) (write_twice at v w xs)

write_apart : (a b : ℕ) (v w : Value) (xs : List Value) → a < b → write a v (write b w xs) ≡ write b w (write a v xs)
write_apart a zero v w xs l = absurd (omega (arith, l))
write_apart zero (suc b) v w [] l = refl
write_apart zero (suc b) v w (x ∷ xs) l = refl
write_apart (suc a) (suc b) v w [] l = ap (λ l. known nil ∷ l) (write_apart a b v w [] (omega (arith, l)))
write_apart (suc a) (suc b) v w (x ∷ xs) l = ap (λ l. x ∷ l) (write_apart a b v w xs (omega (arith, l)))

write_before : (a b : ℕ) (v : Value) (ws xs : List Value) → a < b → write a v (write_all b ws xs) ≡ write_all b ws (write a v xs)
write_before a b v [] xs l = refl
write_before a b v (w ∷ ws) xs l = write_before a (suc b) v ws (write b w xs) (omega (arith, l)) ∙ ap (write_all (suc b) ws) (write_apart a b v w xs l)

-- a range of values

range_none : (from count : ℕ) → range from count [] ≡ nils count
range_none from zero = refl
range_none from (suc count) = ap (λ l. known nil ∷ l) (range_none (suc from) count)

range_behind : (from count : ℕ) (v : Value) (vs : List Value) → range (suc from) count (v ∷ vs) ≡ range from count vs
range_behind from zero v vs = refl
range_behind from (suc count) v vs = ap (λ l. nth vs from ∷ l) (range_behind (suc from) count v vs)

pub range_first : (count : ℕ) (vs : List Value) → count ≤ length vs → range 0 count vs ≡ take count vs
range_first zero vs l = refl
range_first (suc count) [] l = absurd (omega (arith, l))
range_first (suc count) (v ∷ vs) l = ap (λ l. v ∷ l) (range_behind 0 count v vs ∙ range_first count vs (omega (arith, l)))

-- the values from a slot on
pub range_from : (slot count : ℕ) (env : List Value) → range slot count env ≡ range 0 count (drop slot env)
range_from zero count env = refl
range_from (suc slot) count [] = range_none (suc slot) count ∙ sym (range_none 0 count)
range_from (suc slot) count (v ∷ env) = range_behind slot count v env ∙ range_from slot count env

-- values over nils
pub padded : (at count : ℕ) (vs xs : List Value) → length vs ≤ count → write_all at vs (write_all at (nils count) xs) ≡ write_all at (range 0 count vs) xs
padded at count [] xs l = ap (λ ws. write_all at ws xs) (sym (range_none 0 count))
padded at zero (v ∷ vs) xs l = absurd (omega (arith, l))
padded at (suc count) (v ∷ vs) xs l =
    ap (write_all (suc at) vs) (write_before at (suc at) v (nils count) (write at (known nil) xs) (omega arith) ∙ ap (write_all (suc at) (nils count)) (write_twice at v (known nil) xs))
    ∙ padded (suc at) count vs (write at v xs) (omega (arith, l))
    ∙ ap (λ ws. write_all (suc at) ws (write at v xs)) (sym (range_behind 0 count v vs))
