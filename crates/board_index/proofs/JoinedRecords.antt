-- A record behind others: the records that the bytes hold are those in front and the record, and the board is that of a posting.
use Rattle.std.proofs.Common.{◌≡◌, ℕ, zero, suc, ◌+◌, ◌≤◌, true, eqb, List, [], ◌∷◌, ◌++◌, map, length, take, drop, refl, ap, ◌∙◌, ap₂, arith, length-drop}
use lib.Seq.{take-length, take-append-le}
use Rattle.std.proofs.lemmas.List.{get_or_append_left, drop-append-le, map_push}
use Rattle.std.proofs.lemmas.Bool.{eqb-true, ne_eqb, cond-false}
use Rattle.group.specs.Meaning.{Meaning}
use Rattle.protocol.specs.declared.kind.Kind.TheVariants as kinds
use Rattle.protocol.specs.Record.{Posted, length_field, kind_field, kind_with, read_record}
use Rattle.protocol.specs.Refusals.{n_field, t_field, label_field, kind_or, posted}
use Rattle.board_index.specs.Frames.{records_after, ends_after, records_in, are_records, said, board_in}
use Rattle.board_index.proofs.JoinedCodes.{code_left}

ends_within : (left : ℕ) (u : List ℕ) → ends_after left u ≡ true → left ≤ length u
unfolding ends_after
ends_within left [] e = omega (arith, eqb-true left 0 e)
ends_within zero (x ∷ u) e = omega arith
ends_within (suc left) (x ∷ u) e = omega (arith, ends_within left u e)

-- the record that begins whole bytes has the same length field before others
same_field : (x : ℕ) (u bs : List ℕ) → ends_after (suc (length_field (x ∷ u))) u ≡ true → length_field (x ∷ (u ++ bs)) ≡ length_field (x ∷ u)
same_field x u bs e = let within = ends_within (suc (length_field (x ∷ u))) u e in code_left (x ∷ u) bs 2 0 (omega arith)

records_join : (left : ℕ) (u bs : List ℕ) → ends_after left u ≡ true → records_after left (u ++ bs) ≡ records_after left u ++ records_after 0 bs
unfolding records_after ends_after
records_join left [] bs e = ap (λ (n : ℕ). records_after n bs) (eqb-true left 0 e)
records_join zero (x ∷ u) bs e =
    let n = length_field (x ∷ u) in
    let within = ends_within (suc n) u e in
    ap (λ (k : ℕ). take (2 + k) (x ∷ (u ++ bs)) ∷ records_after (suc k) (u ++ bs)) (same_field x u bs e)
    ∙ ap₂ (λ (r : List ℕ) (rs : List (List ℕ)). r ∷ rs) (take-append-le (2 + n) (x ∷ u) bs (omega arith)) (records_join (suc n) u bs e)
records_join (suc left) (x ∷ u) bs e = records_join left u bs e

ends_join : (left : ℕ) (u bs : List ℕ) → ends_after left u ≡ true → ends_after 0 bs ≡ true → ends_after left (u ++ bs) ≡ true
unfolding ends_after
ends_join left [] bs e last = ap (λ (n : ℕ). ends_after n bs) (eqb-true left 0 e) ∙ last
ends_join zero (x ∷ u) bs e last =
    ap (λ (k : ℕ). ends_after (suc k) (u ++ bs)) (same_field x u bs e) ∙ ends_join (suc (length_field (x ∷ u))) u bs e last
ends_join (suc left) (x ∷ u) bs e last = ends_join left u bs e last

-- One record alone.

none_after : (u : List ℕ) → records_after (length u) u ≡ []
unfolding records_after
none_after [] = refl
none_after (x ∷ u) = none_after u

end_after : (u : List ℕ) → ends_after (length u) u ≡ true
unfolding ends_after
end_after [] = refl
end_after (x ∷ u) = end_after u

pub one_record : (bytes : List ℕ) → 2 + length_field bytes ≡ length bytes → records_in bytes ≡ bytes ∷ []
unfolding records_after
one_record [] e = absurd (omega arith)
one_record (x ∷ u) e =
    let rest : suc (length_field (x ∷ u)) ≡ length u = omega arith in
    ap₂ (λ (r : List ℕ) (rs : List (List ℕ)). r ∷ rs)
    (ap (λ (n : ℕ). take n (x ∷ u)) e ∙ take-length (x ∷ u))
    (ap (λ (n : ℕ). records_after n u) rest ∙ none_after u)

pub one_ends : (bytes : List ℕ) → 2 + length_field bytes ≡ length bytes → are_records bytes ≡ true
unfolding ends_after
one_ends [] e = absurd (omega arith)
one_ends (x ∷ u) e =
    let rest : suc (length_field (x ∷ u)) ≡ length u = omega arith in
    ap (λ (n : ℕ). ends_after n u) rest ∙ end_after u

-- One record behind others.

module _ (u bytes : List ℕ) (whole : are_records u ≡ true) (alone : 2 + length_field bytes ≡ length bytes) where
  pub records_behind : are_records (u ++ bytes) ≡ true
  records_behind = ends_join 0 u bytes whole (one_ends bytes alone)

  module _ (m : Meaning) (opening : 24 ≤ length u) (later : kind_field bytes ≡ 1 → ⊥) where
    said_read : (t : ℕ) → said m t bytes ≡ read_record m t (kind_or kinds.Close (kind_with (kind_field bytes))) bytes
    said_read t = cond-false (eqb (kind_field bytes) 1) _ _ (ne_eqb (kind_field bytes) 1 later)

    taken_behind : (t : ℕ) → map (said m t) (records_in (u ++ bytes))
        ≡ map (said m t) (records_in u) ++ read_record m t (kind_or kinds.Close (kind_with (kind_field bytes))) bytes ∷ []
    taken_behind t =
        ap (map (said m t)) (records_join 0 u bytes whole ∙ ap (λ (rs : List (List ℕ)). records_in u ++ rs) (one_record bytes alone))
        ∙ map_push (said m t) (records_in u) bytes
        ∙ ap (λ (r : Posted). map (said m t) (records_in u) ++ r ∷ []) (said_read t)

    pub board_behind : board_in m (u ++ bytes) ≡ posted m (board_in m u) bytes
    unfolding board_in
    board_behind =
        let n : n_field (u ++ bytes) ≡ n_field u = get_or_append_left u bytes 0 6 (omega arith) in
        let t : t_field (u ++ bytes) ≡ t_field u = get_or_append_left u bytes 0 7 (omega arith) in
        let label : label_field (u ++ bytes) ≡ label_field u =
        ap (take 16) (drop-append-le 8 u bytes (omega arith)) ∙ take-append-le 16 (drop 8 u) bytes (simp length-drop (omega arith)) in
        let taken : map (said m (t_field (u ++ bytes))) (records_in (u ++ bytes)) ≡ (posted m (board_in m u) bytes).taken =
        ap (λ (k : ℕ). map (said m k) (records_in (u ++ bytes))) t ∙ taken_behind (t_field u) in
        ap₂ (λ (x y : ℕ). record { n = x; t = y; label = label_field (u ++ bytes); taken = (board_in m (u ++ bytes)).taken }) n t
        ∙ ap₂ (λ (x : List ℕ) (y : List Posted). record { n = n_field u; t = t_field u; label = x; taken = y }) label taken
