-- Scalars, elements and pairs can be added and scaled. Proofs.
use Rattle.std.specs.Prelude.{◌≡◌, ℕ, zero, suc, ◌+◌, ◌*◌, ◌%◌, ◌<◌, Bool, true, false, cond, ltb, List, ◌++◌, length, Some, None, Option, nat_lt, refl}
use Rattle.std.proofs.Common.{sym, ap, ap₂, ◌∙◌, mod-lt, mod-eq_of_lt, add_assoc, add_comm, zero-add, zero-mul, suc-mul, arith, length-append}
use Rattle.std.proofs.Math.Nat.{mod-add-mod, add-mod-mod, zero-mod, mul-mod_right}
use Rattle.std.proofs.lemmas.Bool.{ltb-true, lt-ltb, and_parts, and_from}
use Rattle.group.specs.declared.fault.GroupFault.{GroupFault}
use Rattle.group.specs.Code.{code_at}
use Rattle.group.specs.Meaning.{Meaning, Lawful}
use Rattle.group.specs.Monoid.{Monoid, power, Commutative}
use Rattle.sharing.specs.Linear.{scaled, Exponent, scalar_sum, pair_sum, both_members}
use Rattle.sharing.specs.Codes.{first_of, element_refused, scalar_refused}

-- Scalars.

sum_commutative : (q : ℕ) → 0 < q → Commutative (λ x. ltb x q) (scalar_sum q)
sum_commutative q pos = record {
  closed = λ x y hx hy. lt-ltb ((x + y) % q) q (mod-lt (x + y) pos);
  unit_member = lt-ltb 0 q pos;
  assoc = λ x y z hx hy hz. mod-add-mod (x + y) q z ∙ ap (λ (v : ℕ). v % q) (add_assoc x y z) ∙ sym (add-mod-mod x (y + z) q);
  comm = λ x y hx hy. ap (λ (v : ℕ). v % q) (add_comm x y);
  neutral = λ x h. ap (λ (v : ℕ). v % q) (zero-add x) ∙ mod-eq_of_lt (ltb-true x q h);
}

pub scalar_commutative : {m : Meaning} → Lawful m → Commutative (λ x. ltb x m.q) (scalar_sum m.q)
scalar_commutative {m} laws = let above = laws.q_above in sum_commutative m.q (omega arith)

-- a multiple of a scalar is a product modulo q
pub scaled_scalar : (q n x : ℕ) → scaled (scalar_sum q) n x ≡ (n * x) % q
unfolding power
scaled_scalar q zero x = sym (ap (λ (v : ℕ). v % q) (zero-mul x) ∙ zero-mod q)
scaled_scalar q (suc n) x =
    ap (λ (v : ℕ). (x + v) % q) (scaled_scalar q n x) ∙ add-mod-mod x (n * x) q
    ∙ ap (λ (v : ℕ). v % q) (add_comm x (n * x) ∙ sym (suc-mul n x))

pub scalar_exponent : (q : ℕ) → Exponent q (λ x. ltb x q) (scalar_sum q)
scalar_exponent q x h = scaled_scalar q q x ∙ mul-mod_right q x

-- Pairs.

pub join : {A B : Type 0} {u u' : A} {v v' : B} → u ≡ u' → v ≡ v' → ◌≡◌ {A = A × B} (u, v) (u', v')
join {A} {B} p r = ap₂ (λ (x : A) (y : B). (x, y)) p r

-- a multiple of a pair is the pair of multiples
pub scaled_pair : {A B : Type 0} (a : Monoid A) (b : Monoid B) (n : ℕ) (x : A × B) → scaled (pair_sum a b) n x ≡ (scaled a n x.0, scaled b n x.1)
unfolding power
scaled_pair a b zero x = refl
scaled_pair a b (suc n) x = ap ((pair_sum a b).op x) (scaled_pair a b n x)

module _ {A B : Type 0} (in_a : A → Bool) (in_b : B → Bool) (a : Monoid A) (b : Monoid B) where
  parts : (x : A × B) → both_members in_a in_b x ≡ true → (in_a x.0 ≡ true) × (in_b x.1 ≡ true)
  parts x h = and_parts (in_a x.0) (in_b x.1) h

  pub pair_commutative : Commutative in_a a → Commutative in_b b → Commutative (both_members in_a in_b) (pair_sum a b)
  pair_commutative l r = record {
    closed = λ x y hx hy. and_from (in_a _) (in_b _) (l.closed x.0 y.0 (parts x hx).0 (parts y hy).0) (r.closed x.1 y.1 (parts x hx).1 (parts y hy).1);
    unit_member = and_from (in_a _) (in_b _) l.unit_member r.unit_member;
    assoc = λ x y z hx hy hz. join (l.assoc x.0 y.0 z.0 (parts x hx).0 (parts y hy).0 (parts z hz).0) (r.assoc x.1 y.1 z.1 (parts x hx).1 (parts y hy).1 (parts z hz).1);
    comm = λ x y hx hy. join (l.comm x.0 y.0 (parts x hx).0 (parts y hy).0) (r.comm x.1 y.1 (parts x hx).1 (parts y hy).1);
    neutral = λ x hx. join (l.neutral x.0 (parts x hx).0) (r.neutral x.1 (parts x hx).1);
  }

  pub pair_exponent : (q : ℕ) → Exponent q in_a a → Exponent q in_b b → Exponent q (both_members in_a in_b) (pair_sum a b)
  pair_exponent q l r x h = scaled_pair a b q x ∙ join (l x.0 (parts x h).0) (r x.1 (parts x h).1)

pub pair_length : {A B : Type 0} (encoded_a : A → List ℕ) (encoded_b : B → List ℕ) {w_a w_b : ℕ}
    → ((v : A) → length (encoded_a v) ≡ w_a) → ((v : B) → length (encoded_b v) ≡ w_b)
    → (v : A × B) → length (encoded_a v.0 ++ encoded_b v.1) ≡ w_a + w_b
pair_length encoded_a encoded_b l r v =
    length-append (encoded_a v.0) (encoded_b v.1) ∙ ap₂ ◌+◌ (l v.0) (r v.1)

-- Codes that nothing is said against are codes of members.

taken_by_lem : {X : Type 0} (b : Bool) (fault : X) → ◌≡◌ {A = Option X} (cond b None (Some fault)) None → b ≡ true
taken_by_lem true fault e = refl
taken_by_lem false fault e = cc

pub element_judged : (m : Meaning) (bytes : List ℕ) (at : ℕ) → element_refused m bytes at ≡ None → m.member (code_at bytes m.w at) ≡ true
element_judged m bytes at e = taken_by_lem (m.member (code_at bytes m.w at)) _ e

pub scalar_judged : (m : Meaning) (bytes : List ℕ) (at : ℕ) → scalar_refused m bytes at ≡ None → nat_lt (code_at bytes m.s at) m.q ≡ true
scalar_judged m bytes at e = taken_by_lem (nat_lt (code_at bytes m.s at) m.q) _ e

pub first_none : (x y : Option GroupFault) → first_of x y ≡ None → (x ≡ None) × (y ≡ None)
first_none (Some fault) y e = absurd (cc)
first_none None y e = (refl, e)

-- what is said against a code, and the value that it spells, where nothing is said against it
abbrev Judged : {A : Type 0} → (A → Bool) → (List ℕ → ℕ → Option GroupFault) → (List ℕ → ℕ → A) → Type 0
Judged in_a refusal decoded = (bytes : List ℕ) (at : ℕ) → refusal bytes at ≡ None → in_a (decoded bytes at) ≡ true

module _ {A B : Type 0} (in_a : A → Bool) (in_b : B → Bool) (refusal_a refusal_b : List ℕ → ℕ → Option GroupFault) (decoded_a : List ℕ → ℕ → A) (decoded_b : List ℕ → ℕ → B) (w_a : ℕ) where
  pub pair_judged : Judged in_a refusal_a decoded_a → Judged in_b refusal_b decoded_b
      → Judged (both_members in_a in_b) (λ bytes at. first_of (refusal_a bytes at) (refusal_b bytes (at + w_a))) (λ bytes at. (decoded_a bytes at, decoded_b bytes (at + w_a)))
  pair_judged l r bytes at e =
      let none = first_none (refusal_a bytes at) (refusal_b bytes (at + w_a)) e in
      and_from (in_a (decoded_a bytes at)) (in_b (decoded_b bytes (at + w_a))) (l bytes at none.0) (r bytes (at + w_a) none.1)
