-- Records: what their bytes say, and the bytes that say it. Definitions.
use Rattle.std.specs.Prelude.{◌≡◌, ℕ, ◌+◌, ◌*◌, cond, List, [], ◌∷◌, ◌++◌, length, Some, None, Option, Result, MatchResult, ◌==◌, slice_index}
use Rattle.group.specs.Code.{code, code_at}
use Rattle.group.specs.Meaning.{Meaning}
use Rattle.sharing.specs.Codes.{decoded_from}
use Rattle.protocol.specs.declared.kind.Kind.{Kind}
use Rattle.protocol.specs.declared.kind.UnknownKind.{UnknownKind}
use Rattle.protocol.specs.declared.kind.Kind.TheVariants.{Opening, Deal, Complaint, Answer, Exposure, Objection, Reveal, Close, Letter, Sheet}

abbrev pub kind_number : Kind → ℕ
kind_number Opening = 1
kind_number Deal = 2
kind_number Complaint = 3
kind_number Answer = 4
kind_number Exposure = 5
kind_number Objection = 6
kind_number Reveal = 7
kind_number Close = 8
kind_number Letter = 16
kind_number Sheet = 17

-- the kind with a number
unfoldable pub kind_with : ℕ → Option Kind
kind_with n =
    cond (n == 1) (Some Opening) (cond (n == 2) (Some Deal) (cond (n == 3) (Some Complaint) (cond (n == 4) (Some Answer)
    (cond (n == 5) (Some Exposure) (cond (n == 6) (Some Objection) (cond (n == 7) (Some Reveal) (cond (n == 8) (Some Close)
    (cond (n == 16) (Some Letter) (cond (n == 17) (Some Sheet) None)))))))))

-- the result is the kind with the number, or an error with a number that no kind has
abbrev pub Decodes : ℕ → Result Kind UnknownKind → Type 0
Decodes n r = MatchResult r (λ kind. kind_with n ≡ Some kind) (λ e. (kind_with n ≡ None) × (e.0 ≡ n))

-- The frame: the length of what follows it in two bytes, the kind in two bytes, the body.

abbrev pub length_field : List ℕ → ℕ
length_field bytes = code_at bytes 2 0

abbrev pub kind_field : List ℕ → ℕ
kind_field bytes = code_at bytes 2 2

abbrev pub framed : Kind → List ℕ → List ℕ
framed kind body = code 2 (2 + length body) ++ (code 2 (kind_number kind) ++ body)

-- What a posted record says: its writer, the second seat that it names (0 where there is none), and its codes.
-- A Close says the phase that ends in the place of a writer.
pub record Posted : Type 0 where
  pub kind : Kind
  pub writer : ℕ
  pub second : ℕ
  pub codes : List ℕ

-- codes one after another
unfoldable pub codes_of : ℕ → List ℕ → List ℕ
codes_of w [] = []
codes_of w (n ∷ ns) = code w n ++ codes_of w ns

-- how a kind's body is laid out behind the writer
pub data Layout : Type 0 where
  Elements : Layout
  Second : Layout
  SecondAndShare : Layout
  Nothing : Layout

abbrev pub layout_of : Kind → Layout
layout_of Opening = Nothing
layout_of Deal = Elements
layout_of Complaint = Second
layout_of Answer = SecondAndShare
layout_of Exposure = Elements
layout_of Objection = SecondAndShare
layout_of Reveal = SecondAndShare
layout_of Close = Nothing
layout_of Letter = Nothing
layout_of Sheet = Nothing

-- the length field that a layout asks for, with t + 1 elements
abbrev pub length_of : Meaning → ℕ → Layout → ℕ
length_of m t Elements = 3 + (t + 1) * m.w
length_of m t Second = 4
length_of m t SecondAndShare = 4 + 2 * m.s
length_of m t Nothing = 3

abbrev pub writer_of : List ℕ → ℕ
writer_of bytes = slice_index bytes 4

abbrev pub second_of : List ℕ → ℕ
second_of bytes = slice_index bytes 5

-- what the bytes of a record with a layout say
abbrev pub read_as : Meaning → ℕ → Kind → Layout → List ℕ → Posted
read_as m t kind Elements bytes =
    record { kind = kind; writer = writer_of bytes; second = 0; codes = decoded_from (λ place. code_at bytes m.w place) m.w 5 (t + 1) }
read_as m t kind Second bytes = record { kind = kind; writer = writer_of bytes; second = second_of bytes; codes = [] }
read_as m t kind SecondAndShare bytes =
    record { kind = kind; writer = writer_of bytes; second = second_of bytes; codes = decoded_from (λ place. code_at bytes m.s place) m.s 6 2 }
read_as m t kind Nothing bytes = record { kind = kind; writer = writer_of bytes; second = 0; codes = [] }

abbrev pub read_record : Meaning → ℕ → Kind → List ℕ → Posted
read_record m t kind bytes = read_as m t kind (layout_of kind) bytes

-- the body that says it
abbrev pub body_as : Meaning → Layout → Posted → List ℕ
body_as m Elements r = r.writer ∷ codes_of m.w r.codes
body_as m Second r = r.writer ∷ r.second ∷ []
body_as m SecondAndShare r = r.writer ∷ r.second ∷ codes_of m.s r.codes
body_as m Nothing r = r.writer ∷ []

abbrev pub write_record : Meaning → Posted → List ℕ
write_record m r = framed r.kind (body_as m (layout_of r.kind) r)
