-- Room for the records that can still be taken: each takes its size from it, and at the opening it is the rest of the area.
use Rattle.std.proofs.Common.{◌≡◌, ℕ, zero, suc, ◌+◌, ◌-◌, ◌*◌, ◌^◌, ◌<◌, ◌≤◌, Bool, true, false, cond, not, ◌&&◌, eqb, List, sym, refl, ap, ◌∙◌, subst, ap₂, inl, inr, arith}
use mathlib.Core.Bool.{and-true}
use native.Mathlib.Nat.{mul-sub}
use Rattle.std.proofs.lemmas.Bool.{false≢true, eq-eqb, ne_eqb, and_from, and_right, not_from_true, not_from_false, cases_eq}
use Rattle.std.proofs.lemmas.Bool.Decides.{nat_tests}
use Rattle.std.proofs.lemmas.Nat.{mul-le}
use Rattle.group.specs.Meaning.{Meaning, Lawful}
use Rattle.protocol.specs.declared.kind.Kind.{Kind}
use Rattle.protocol.specs.declared.kind.Kind.TheVariants.{Opening, Deal, Complaint, Answer, Exposure, Objection, Reveal, Close, Letter, Sheet}
use Rattle.protocol.specs.Record.{Posted, kind_number}
use Rattle.protocol.specs.Seats.{is_seat}
use Rattle.protocol.specs.Board.{Board, is_kind, has, starts}
use Rattle.protocol.specs.Refusals.{area_needed}
use Rattle.protocol.proofs.Entries.{kind_same}
use Rattle.board_index.specs.State.{is_indexed}
use Rattle.board_index.specs.Room.{sum_below, may_name, record_size, left_of, left}

-- Sums.

sum_same : (n : ℕ) (f g : ℕ → ℕ) → ((x : ℕ) → x < n → g x ≡ f x) → sum_below n g ≡ sum_below n f
unfolding sum_below
sum_same zero f g same = refl
sum_same (suc n) f g same = ap₂ (λ a b. a + b) (same n (omega arith)) (sum_same n f g (λ x below. same x (omega arith)))

-- one summand less by w
sum_less : (n i w : ℕ) (f g : ℕ → ℕ) → i < n → g i + w ≡ f i → ((x : ℕ) → x < n → (x ≡ i → ⊥) → g x ≡ f x) → sum_below n g + w ≡ sum_below n f
unfolding sum_below
sum_less zero i w f g below here others = absurd (omega arith)
sum_less (suc n) i w f g below here others = elim (cases_eq i n) [
  | inl last ↦
      let now : g n + w ≡ f n = subst (λ (x : ℕ). g x + w ≡ f x) last here in
      let before = sum_same n f g (λ x low. others x (omega arith) (λ e. omega arith)) in
      omega arith
  | inr earlier ↦
      let low : i < n = grind arith in
      let now = others n (omega arith) (λ e. earlier (sym e)) in
      let before = sum_less n i w f g low here (λ x lower. others x (omega arith)) in
      omega arith
]

sum_const : (n w : ℕ) → sum_below n (λ _. w) ≡ n * w
unfolding sum_below
sum_const zero w = omega arith
sum_const (suc n) w = omega (arith, sum_const n w)

-- nothing at 0, and w at each seat
sum_seats : (n w : ℕ) (f : ℕ → ℕ) → f 0 ≡ 0 → ((x : ℕ) → 1 ≤ x → x ≤ n → f x ≡ w) → sum_below (n + 1) f ≡ n * w
sum_seats n w f none each =
    let less = sum_less (n + 1) 0 w (λ _. w) f (omega arith) (omega arith) (λ x below other. each x (grind arith) (omega arith)) in
    omega (arith, sum_const (n + 1) w)

-- Sums over all pairs of numbers up to n, with w for each pair that passes a test.

abbrev row : ℕ → (ℕ → Bool) → ℕ → ℕ
row n test w = sum_below (n + 1) (λ j. cond (test j) w 0)

abbrev grid : ℕ → (ℕ → ℕ → Bool) → ℕ → ℕ
grid n test w = sum_below (n + 1) (λ i. row n (test i) w)

row_same : (n w : ℕ) (p q : ℕ → Bool) → ((y : ℕ) → q y ≡ p y) → row n q w ≡ row n p w
row_same n w p q same = sum_same (n + 1) _ _ (λ y _. ap (λ (v : Bool). cond v w 0) (same y))

row_less : (n w j : ℕ) (p q : ℕ → Bool) → j ≤ n → p j ≡ true → q j ≡ false → ((y : ℕ) → (y ≡ j → ⊥) → q y ≡ p y) → row n q w + w ≡ row n p w
row_less n w j p q low is gone others =
    sum_less (n + 1) j w _ _ (omega arith)
    (ap (λ (v : Bool). cond v w 0 + w) gone ∙ omega arith ∙ sym (ap (λ (v : Bool). cond v w 0) is))
    (λ y _ other. ap (λ (v : Bool). cond v w 0) (others y other))

grid_same : (n w : ℕ) (p q : ℕ → ℕ → Bool) → ((x y : ℕ) → q x y ≡ p x y) → grid n q w ≡ grid n p w
grid_same n w p q same = sum_same (n + 1) _ _ (λ x _. row_same n w (p x) (q x) (same x))

grid_less : (n w i j : ℕ) (p q : ℕ → ℕ → Bool) → i ≤ n → j ≤ n → p i j ≡ true → q i j ≡ false
    → ((x y : ℕ) → (x ≡ i → y ≡ j → ⊥) → q x y ≡ p x y) → grid n q w + w ≡ grid n p w
grid_less n w i j p q low_i low_j is gone others =
    sum_less (n + 1) i w _ _ (omega arith)
    (row_less n w j (p i) (q i) low_j is gone (λ y other. others i y (λ _ e. other e)))
    (λ x _ other. row_same n w (p x) (q x) (λ y. others x y (λ e _. other e)))

-- The pairs that the kinds may name.

-- n rows of v
grid_rows : (n w v : ℕ) (test : ℕ → ℕ → Bool) → ((y : ℕ) → test 0 y ≡ false) → ((x : ℕ) → 1 ≤ x → x ≤ n → row n (test x) w ≡ v) → grid n test w ≡ n * v
grid_rows n w v test none each =
    sum_seats n v _ (row_same n w (λ _. false) (test 0) none ∙ sum_const (n + 1) 0 ∙ omega arith) each

grid_seats : (n w : ℕ) → grid n (λ i j. is_seat n i && eqb j 0) w ≡ n * w
grid_seats n w = grid_rows n w w _ (λ y. refl) (λ x low high.
    let less = row_less n w 0 (λ j. is_seat n x && eqb j 0) (λ _. false) (omega arith) (grind (arith, nat_tests)) refl (λ y other. grind (arith, nat_tests)) in
    omega (arith, sum_const (n + 1) 0))

row_seats : (n w x : ℕ) → 1 ≤ x → x ≤ n → row n (λ j. is_seat n x && is_seat n j) w ≡ n * w
row_seats n w x low high = sum_seats n w _ (grind (arith, nat_tests)) (λ y from to. grind (arith, nat_tests))

grid_pairs : (n w : ℕ) → grid n (λ i j. is_seat n i && is_seat n j) w ≡ n * (n * w)
grid_pairs n w = grid_rows n w (n * w) _ (λ y. refl) (row_seats n w)

grid_apart : (n w : ℕ) → grid n (λ i j. is_seat n i && (is_seat n j && not (eqb i j))) w ≡ n * ((n - 1) * w)
grid_apart n w = grid_rows n w ((n - 1) * w) _ (λ y. refl) (λ x low high.
    let less = row_less n w x (λ j. is_seat n x && is_seat n j) (λ j. is_seat n x && (is_seat n j && not (eqb x j))) high (grind (arith, nat_tests)) (grind (arith, nat_tests)) (λ y other. grind (arith, nat_tests)) in
    omega (arith, row_seats n w x low high, mul-sub w n 1))

pub named_low : (n : ℕ) (kind : Kind) (i j : ℕ) → may_name n kind i j ≡ true → (i ≤ n) × (j ≤ n)
named_low n Opening i j h = absurd (false≢true h)
named_low n Deal i j h = grind (arith, nat_tests)
named_low n Complaint i j h = grind (arith, nat_tests)
named_low n Answer i j h = grind (arith, nat_tests)
named_low n Exposure i j h = grind (arith, nat_tests)
named_low n Objection i j h = grind (arith, nat_tests)
named_low n Reveal i j h = grind (arith, nat_tests)
named_low n Close i j h = absurd (false≢true h)
named_low n Letter i j h = absurd (false≢true h)
named_low n Sheet i j h = absurd (false≢true h)

-- What is left of a kind.

abbrev untaken : ℕ → List Posted → Kind → ℕ → ℕ → Bool
untaken n taken kind i j = may_name n kind i j && not (has taken kind i j)

untaken_at : (n : ℕ) (taken : List Posted) (kind : Kind) (i j : ℕ) (v : Bool) → has taken kind i j ≡ v → untaken n taken kind i j ≡ (may_name n kind i j && not v)
untaken_at n taken kind i j v e = ap (λ (w : Bool). may_name n kind i j && not w) e

left_of_lem : (m : Meaning) (b c : Board) (kind : Kind) → c.n ≡ b.n → c.t ≡ b.t
    → left_of m c kind ≡ grid b.n (untaken b.n c.taken kind) (record_size m b.t kind)
unfolding left_of
left_of_lem m b c kind n_same t_same = ap₂ (λ n t. grid n (untaken n c.taken kind) (record_size m t kind)) n_same t_same

left_of_same : (m : Meaning) (b c : Board) (kind : Kind) → c.n ≡ b.n → c.t ≡ b.t
    → ((x y : ℕ) → has c.taken kind x y ≡ has b.taken kind x y) → left_of m c kind ≡ left_of m b kind
left_of_same m b c kind n_same t_same same =
    left_of_lem m b c kind n_same t_same
    ∙ grid_same b.n _ _ _ (λ x y. untaken_at b.n c.taken kind x y _ (same x y))
    ∙ sym (left_of_lem m b b kind refl refl)

left_of_less : (m : Meaning) (b c : Board) (kind : Kind) (i j : ℕ) → c.n ≡ b.n → c.t ≡ b.t
    → may_name b.n kind i j ≡ true → has b.taken kind i j ≡ false → has c.taken kind i j ≡ true
    → ((x y : ℕ) → (x ≡ i → y ≡ j → ⊥) → has c.taken kind x y ≡ has b.taken kind x y)
    → left_of m c kind + record_size m b.t kind ≡ left_of m b kind
left_of_less m b c kind i j n_same t_same named absent there others =
    let low = named_low b.n kind i j named in
    let after = left_of_lem m b c kind n_same t_same in
    let before = left_of_lem m b b kind refl refl in
    let is = and_from _ _ named (not_from_false _ absent) in
    let gone = and_right (may_name b.n kind i j) _ (not_from_true _ there) in
    let less = grid_less b.n (record_size m b.t kind) i j (untaken b.n b.taken kind) (untaken b.n c.taken kind) low.0 low.1 is gone (λ x y other. untaken_at b.n c.taken kind x y _ (others x y other)) in
    omega arith

-- a record counts for its own kind alone
one_kind : (kind : Kind) (w : ℕ) → is_indexed kind ≡ true
    → cond (is_kind kind Deal) w 0 + cond (is_kind kind Complaint) w 0 + cond (is_kind kind Answer) w 0
    + cond (is_kind kind Exposure) w 0 + cond (is_kind kind Objection) w 0 + cond (is_kind kind Reveal) w 0 ≡ w
one_kind Opening w h = absurd (false≢true h)
one_kind Deal w h = omega arith
one_kind Complaint w h = omega arith
one_kind Answer w h = omega arith
one_kind Exposure w h = omega arith
one_kind Objection w h = omega arith
one_kind Reveal w h = omega arith
one_kind Close w h = absurd (false≢true h)
one_kind Letter w h = absurd (false≢true h)
one_kind Sheet w h = absurd (false≢true h)

module _ (m : Meaning) (b c : Board) (kind : Kind) (i j : ℕ) (indexed : is_indexed kind ≡ true) (n_same : c.n ≡ b.n) (t_same : c.t ≡ b.t)
    (as_many : starts c.taken ≡ starts b.taken) (named : may_name b.n kind i j ≡ true) (absent : has b.taken kind i j ≡ false)
    (there : has c.taken kind i j ≡ true)
    (others : (k : Kind) (x y : ℕ) → is_indexed k ≡ true → ((kind_number k ≡ kind_number kind) → (x ≡ i) → (y ≡ j) → ⊥) → has c.taken k x y ≡ has b.taken k x y) where
  of_kind : (k : Kind) → is_indexed k ≡ true → left_of m c k + cond (is_kind kind k) (record_size m b.t kind) 0 ≡ left_of m b k
  of_kind k is = elim (cases_eq (kind_number kind) (kind_number k)) [
    | inl same ↦
        subst (λ (k : Kind). left_of m c k + cond (is_kind kind k) (record_size m b.t kind) 0 ≡ left_of m b k) (kind_same kind k same)
        (ap (λ (v : Bool). left_of m c kind + cond v (record_size m b.t kind) 0) (eq-eqb _ _ refl)
        ∙ left_of_less m b c kind i j n_same t_same named absent there (λ x y other. others kind x y indexed (λ _. other)))
    | inr apart ↦
        ap (λ (v : Bool). left_of m c k + cond v (record_size m b.t kind) 0) (ne_eqb _ _ apart) ∙ omega arith
        ∙ left_of_same m b c k n_same t_same (λ x y. others k x y is (λ e _ _. apart (sym e)))
  ]

  pub left_filed : left m c + record_size m b.t kind ≡ left m b
  unfolding left
  left_filed =
      omega (arith, of_kind Deal refl, of_kind Complaint refl, of_kind Answer refl, of_kind Exposure refl, of_kind Objection refl, of_kind Reveal refl, one_kind kind (record_size m b.t kind) indexed)

pub left_closed : (m : Meaning) (b c : Board) → c.n ≡ b.n → c.t ≡ b.t → starts c.taken ≡ suc (starts b.taken) → starts b.taken ≤ 6
    → ((k : Kind) (x y : ℕ) → is_indexed k ≡ true → has c.taken k x y ≡ has b.taken k x y) → left m c + 5 ≡ left m b
unfolding left
left_closed m b c n_same t_same one_more few same =
    let of : (k : Kind) → is_indexed k ≡ true → left_of m c k ≡ left_of m b k = λ k is. left_of_same m b c k n_same t_same (λ x y. same k x y is) in
    omega (arith, of Deal refl, of Complaint refl, of Answer refl, of Exposure refl, of Objection refl, of Reveal refl)

pub left_opened : (m : Meaning) (b : Board) → 1 ≤ b.n → starts b.taken ≡ 1 → ((k : Kind) (x y : ℕ) → is_indexed k ≡ true → has b.taken k x y ≡ false)
    → left m b + 24 ≡ area_needed m b.n b.t
unfolding left
left_opened m b some one none =
    let of : (k : Kind) → is_indexed k ≡ true → left_of m b k ≡ grid b.n (may_name b.n k) (record_size m b.t k) = λ k is. left_of_lem m b b k refl refl ∙ grid_same b.n _ _ _ (λ x y. untaken_at b.n b.taken k x y false (none k x y is) ∙ and-true _) in
    let deals = of Deal refl ∙ grid_seats b.n _ in
    let complaints = of Complaint refl ∙ grid_apart b.n _ in
    let answers = of Answer refl ∙ grid_apart b.n _ in
    let exposures = of Exposure refl ∙ grid_seats b.n _ in
    let objections = of Objection refl ∙ grid_apart b.n _ in
    let reveals = of Reveal refl ∙ grid_pairs b.n _ in
    let square = mul-le 1 b.n b.n b.n some (omega arith) in
    let apart = mul-sub b.n b.n 1 in
    let shares : 3 * b.n * b.n - 2 * b.n ≡ 2 * (b.n * (b.n - 1)) + b.n * b.n = omega arith in
    let sizes = ap (λ (k : ℕ). k * (6 + 2 * m.s)) shares in
    omega arith

pub area_narrow : (m : Meaning) → Lawful m → (n t : ℕ) → n ≤ 32 → t ≤ 15 → area_needed m n t < 2 ^ 32
area_narrow m lawful n t few low =
    let element = mul-le (t + 1) m.w 16 4 (omega arith) lawful.w_to in
    let lists = mul-le (2 * n) (5 + (t + 1) * m.w) 64 69 (omega arith) (omega arith) in
    let pairs = mul-le (6 * n) (n - 1) 192 31 (omega arith) (omega arith) in
    let squares = mul-le (3 * n) n 96 32 (omega arith) (omega arith) in
    let shares = mul-le (3 * n * n - 2 * n) (6 + 2 * m.s) 3072 14 (omega arith) (omega (arith, lawful.s_to)) in
    omega arith
