-- Rows are read and written alike under a map of values that keeps equality, nil and the integers.
use Rattle.std.proofs.Common.{◌≡◌, ℕ, zero, suc, ◌+◌, List, [], ◌∷◌, ◌++◌, length, map, filter, Option, Some, None, refl, ap, sym, ◌∙◌, Bool, true, false, cond, not}
use Rattle.std.specs.Prelude.{ℤ, pos, ◌||◌, nat_lt, count_by, unwrap_or, option_map}
use Rattle.std.specs.Map.{lookup, set_value}
use Rattle.std.proofs.lemmas.List.Sums.{sum_by-cons}
use Rattle.int_core.specs.Rows.{Values, is_nil, is_cleared, is_filled, has_row, get, kept, set, behind, border_from, border}

cond_on : {A B : Type 0} (g : A → B) (b : Bool) (x y : A) → g (cond b x y) ≡ cond b (g x) (g y)
cond_on g true x y = refl
cond_on g false x y = refl

cond_same : {A : Type 0} (b c : Bool) (x y x' y' : A) → b ≡ c → x ≡ x' → y ≡ y' → cond b x y ≡ cond c x' y'
cond_same b c x y x' y' e f g = ap (λ b. cond b x y) e ∙ ap (λ x. cond c x y) f ∙ ap (λ y. cond c x' y) g

module _ {V W : Type 0} (vs : Values V) (ws : Values W) (f : V → W) (same : (a b : V) → ws.same (f a) (f b) ≡ vs.same a b) (nil : f vs.nil ≡ ws.nil) (integer : (n : ℤ) → f (vs.integer n) ≡ ws.integer n) where
  abbrev on : V × V → W × W
  on r = (f r.0, f r.1)

  lookup_on : (rows : List (V × V)) (key : V) → lookup (ws.same (f key)) (map on rows) ≡ option_map f (lookup (vs.same key) rows)
  lookup_on [] key = refl
  lookup_on (r ∷ rows) key =
      cond_same _ _ (Some (f r.1)) _ (Some (f r.1)) _ (same key r.0) refl (lookup_on rows key)
      ∙ sym (cond_on (option_map f) (vs.same key r.0) (Some r.1) (lookup (vs.same key) rows))

  unwrapped : (o : Option V) → unwrap_or (option_map f o) ws.nil ≡ f (unwrap_or o vs.nil)
  unwrapped None = sym nil
  unwrapped (Some v) = refl

  pub get_on : (rows : List (V × V)) (key : V) → get ws (map on rows) (f key) ≡ f (get vs rows key)
  get_on rows key = ap (λ o. unwrap_or o ws.nil) (lookup_on rows key) ∙ unwrapped (lookup (vs.same key) rows)

  has_on : (rows : List (V × V)) (key : V) → has_row ws (map on rows) (f key) ≡ has_row vs rows key
  has_on [] key = refl
  has_on (r ∷ rows) key = ap (λ b. b || has_row ws (map on rows) (f key)) (same key r.0) ∙ ap (λ b. vs.same key r.0 || b) (has_on rows key)

  nil_on : (v : V) → is_nil ws (f v) ≡ is_nil vs v
  nil_on v = ap (ws.same (f v)) (sym nil) ∙ same v vs.nil

  filled_on : (rows : List (V × V)) → filter (is_filled ws) (map on rows) ≡ map on (filter (is_filled vs) rows)
  filled_on [] = refl
  filled_on (r ∷ rows) =
      cond_same _ _ (on r ∷ filter (is_filled ws) (map on rows)) (filter (is_filled ws) (map on rows)) (on r ∷ map on (filter (is_filled vs) rows)) _ (ap not (nil_on r.1)) (ap (λ l. on r ∷ l) (filled_on rows)) (filled_on rows)
      ∙ sym (cond_on (map on) (not (is_nil vs r.1)) (r ∷ filter (is_filled vs) rows) (filter (is_filled vs) rows))

  count_on : (p : W × W → Bool) (q : V × V → Bool) (rows : List (V × V)) → ((r : V × V) → p (on r) ≡ q r) → count_by p (map on rows) ≡ count_by q rows
  count_on p q [] h = refl
  count_on p q (r ∷ rows) h =
      sum_by-cons (λ x. cond (p x) 1 0) (on r) (map on rows)
      ∙ ap (λ b. cond b 1 0 + count_by p (map on rows)) (h r) ∙ ap (λ n. cond (q r) 1 0 + n) (count_on p q rows h)
      ∙ sym (sum_by-cons (λ x. cond (q x) 1 0) r rows)

  kept_on : (rows : List (V × V)) → kept ws (map on rows) ≡ map on (kept vs rows)
  kept_on rows =
      cond_same _ (nat_lt (count_by (is_filled vs) rows) (count_by (is_cleared vs) rows)) _ (map on rows) (map on (filter (is_filled vs) rows)) (map on rows)
      (ap (λ n. nat_lt n (count_by (is_cleared ws) (map on rows))) (count_on (is_filled ws) (is_filled vs) rows (λ r. ap not (nil_on r.1)))
      ∙ ap (nat_lt (count_by (is_filled vs) rows)) (count_on (is_cleared ws) (is_cleared vs) rows (λ r. nil_on r.1)))
      (filled_on rows) refl
      ∙ sym (cond_on (map on) (nat_lt (count_by (is_filled vs) rows) (count_by (is_cleared vs) rows)) (filter (is_filled vs) rows) rows)

  put_on : (rows : List (V × V)) (key v : V) → set_value (ws.same (f key)) (map on rows) (f v) ≡ map on (set_value (vs.same key) rows v)
  put_on [] key v = refl
  put_on (r ∷ rows) key v =
      cond_same _ _ ((f r.0, f v) ∷ map on rows) _ ((f r.0, f v) ∷ map on rows) _ (same key r.0) refl (ap (λ l. on r ∷ l) (put_on rows key v))
      ∙ sym (cond_on (map on) (vs.same key r.0) ((r.0, v) ∷ rows) (r ∷ set_value (vs.same key) rows v))

  map_more : (rows : List (V × V)) (r : V × V) → map on (rows ++ r ∷ []) ≡ map on rows ++ on r ∷ []
  map_more [] r = refl
  map_more (x ∷ rows) r = ap (λ l. on x ∷ l) (map_more rows r)

  pub set_on : (rows : List (V × V)) (key v : V) → set ws (map on rows) (f key) (f v) ≡ map on (set vs rows key v)
  set_on rows key v =
      let last = kept vs rows ++ (key, v) ∷ [] in
      cond_same _ (has_row vs rows key) _ _ (map on (set_value (vs.same key) rows v)) (map on (cond (is_nil vs v) rows last)) (has_on rows key) (put_on rows key v)
      (cond_same _ (is_nil vs v) (map on rows) _ (map on rows) (map on last) (nil_on v) refl (ap (λ l. l ++ (f key, f v) ∷ []) (kept_on rows) ∙ sym (map_more (kept vs rows) (key, v)))
      ∙ sym (cond_on (map on) (is_nil vs v) rows last))
      ∙ sym (cond_on (map on) (has_row vs rows key) (set_value (vs.same key) rows v) (cond (is_nil vs v) rows last))

  behind_on : (rows : List (V × V)) (n : ℕ) → is_nil ws (behind ws (map on rows) n) ≡ is_nil vs (behind vs rows n)
  behind_on rows n =
      ap (λ k. is_nil ws (get ws (map on rows) k)) (sym (integer (pos (n + 1)))) ∙ ap (is_nil ws) (get_on rows (vs.integer (pos (n + 1)))) ∙ nil_on (behind vs rows n)

  border_from_on : (rows : List (V × V)) (left n : ℕ) → border_from ws (map on rows) left n ≡ border_from vs rows left n
  border_from_on rows zero n = refl
  border_from_on rows (suc left) n = cond_same _ _ n _ n _ (behind_on rows n) refl (border_from_on rows left (n + 1))

  length_on : (rows : List (V × V)) → length (map on rows) ≡ length rows
  length_on [] = refl
  length_on (r ∷ rows) = ap suc (length_on rows)

  pub border_on : (rows : List (V × V)) → border ws (map on rows) ≡ border vs rows
  border_on rows = ap (λ n. border_from ws (map on rows) n 0) (length_on rows) ∙ border_from_on rows (length rows) 0
