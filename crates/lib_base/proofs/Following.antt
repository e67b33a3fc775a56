-- The row behind a key, under a map of values that keeps equality and nil.
use Rattle.std.proofs.Common.{◌≡◌, ℕ, suc, ◌+◌, List, [], ◌∷◌, length, map, Option, Some, None, refl, ap, sym, ◌∙◌, Bool, true, false, cond, not}
use Rattle.std.specs.Prelude.{nat_lt, find, drop, option_map}
use Rattle.std.specs.List.{position, prefix_len}
use Rattle.std.specs.Map.{keys_of}
use Rattle.std.proofs.lemmas.List.{drop-map}
use Rattle.int_core.specs.Rows.{Values, is_nil, is_filled, rows_after, next}

module _ {V W : Type 0} (vs : Values V) (ws : Values W) (f : V → W) (same : (a b : V) → ws.same (f a) (f b) ≡ vs.same a b) (nil : f vs.nil ≡ ws.nil) where
  abbrev on : V × V → W × W
  on r = (f r.0, f r.1)

  nil_on : (v : V) → is_nil ws (f v) ≡ is_nil vs v
  nil_on v = ap (ws.same (f v)) (sym nil) ∙ same v vs.nil

  by_test : {A B : Type 0} (g : A → B) (b c : Bool) (x : A) (y : A) (z : B) → b ≡ c → z ≡ g y → cond b (g x) z ≡ g (cond c x y)
  by_test g b c x y z e h = ap (λ b. cond b (g x) z) e ∙ ap (λ z. cond c (g x) z) h ∙ by c
    where
      by : (c : Bool) → cond c (g x) (g y) ≡ g (cond c x y)
      by true = refl
      by false = refl

  find_on : (rows : List (V × V)) → find (is_filled ws) (map on rows) ≡ option_map on (find (is_filled vs) rows)
  find_on [] = refl
  find_on (r ∷ rows) = by_test (option_map on) _ (not (is_nil vs r.1)) (Some r) (find (is_filled vs) rows) _ (ap not (nil_on r.1)) (find_on rows)

  before_on : (rows : List (V × V)) (key : V) → prefix_len (λ k. not (ws.same (f key) k)) (keys_of (map on rows)) ≡ prefix_len (λ k. not (vs.same key k)) (keys_of rows)
  before_on [] key = refl
  before_on (r ∷ rows) key =
      ap (λ b. cond (not b) (1 + prefix_len (λ k. not (ws.same (f key) k)) (keys_of (map on rows))) 0) (same key r.0)
      ∙ ap (λ n. cond (not (vs.same key r.0)) (1 + n) 0) (before_on rows key)

  count_on : (rows : List (V × V)) → length (keys_of (map on rows)) ≡ length (keys_of rows)
  count_on [] = refl
  count_on (r ∷ rows) = ap suc (count_on rows)

  position_on : (rows : List (V × V)) (key : V) → position (ws.same (f key)) (keys_of (map on rows)) ≡ position (vs.same key) (keys_of rows)
  position_on rows key =
      ap (λ n. cond (nat_lt n (length (keys_of (map on rows)))) (Some n) None) (before_on rows key)
      ∙ ap (λ n. cond (nat_lt (prefix_len (λ k. not (vs.same key k)) (keys_of rows)) n) (Some (prefix_len (λ k. not (vs.same key k)) (keys_of rows))) None) (count_on rows)

  dropped : (rows : List (V × V)) (o : Option ℕ) → option_map (λ at. drop (at + 1) (map on rows)) o ≡ option_map (map on) (option_map (λ at. drop (at + 1) rows) o)
  dropped rows None = refl
  dropped rows (Some at) = ap Some (drop-map on (at + 1) rows)

  after_on : (rows : List (V × V)) (key : V) → rows_after ws (map on rows) (f key) ≡ option_map (map on) (rows_after vs rows key)
  after_on rows key =
      by_test (option_map (map on)) _ (is_nil vs key) (Some rows) (option_map (λ at. drop (at + 1) rows) (position (vs.same key) (keys_of rows))) _ (nil_on key)
      (ap (option_map (λ at. drop (at + 1) (map on rows))) (position_on rows key) ∙ dropped rows (position (vs.same key) (keys_of rows)))

  found : (o : Option (List (V × V))) → option_map (find (is_filled ws)) (option_map (map on) o) ≡ option_map (option_map on) (option_map (find (is_filled vs)) o)
  found None = refl
  found (Some rows) = ap Some (find_on rows)

  pub next_on : (rows : List (V × V)) (key : V) → next ws (map on rows) (f key) ≡ option_map (option_map on) (next vs rows key)
  next_on rows key = ap (option_map (find (is_filled ws))) (after_on rows key) ∙ found (rows_after vs rows key)
