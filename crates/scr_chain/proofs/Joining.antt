-- The rows of two programs, joined: each field is the one that either program keeps.
use Rattle.std.proofs.Common.{◌≡◌, ◌∙◌, ℕ, ◌+◌, ◌*◌, ◌/◌, ◌%◌, ◌^◌, ◌<◌, ◌⊎◌, inl, inr, bit_or, refl, sym, ap, arith}
use Rattle.std.proofs.lemmas.Nat.{or_shr, or_mod, or_comm, or_disjoint, and_mask, shr_split}
use Rattle.std.proofs.lemmas.Nat.Bits.{same_from_bits, bit_at_or}
use Rattle.scr_base.specs.declared.row.Row.{Row}
use Rattle.scr_program.specs.declared.fields.Fields.{Fields}
use Rattle.scr_program.specs.Rows.{no_fields, packed, unpacked}
use Rattle.scr_chain.specs.Chains.{joined}

or-same : (n : ℕ) → bit_or n n ≡ n
or-same n = same_from_bits (bit_or n n) n (λ i. bit_at_or n n i ∙ omega arith)

or-zero : (n : ℕ) → bit_or n 0 ≡ n
or-zero n = or_disjoint n 0 (and_mask n 0 ∙ omega arith) ∙ omega arith

pub zero-or : (n : ℕ) → bit_or 0 n ≡ n
zero-or n = or_comm 0 n ∙ or-zero n

-- 0, or the whole
abbrev pub IsPart : ℕ → ℕ → Type 0
IsPart part whole = (part ≡ 0) ⊎ (part ≡ whole)

-- a part adds nothing to the whole
pub whole-or : (whole part : ℕ) → IsPart part whole → bit_or whole part ≡ whole
whole-or whole part (inl none) = ap (bit_or whole) none ∙ or-zero whole
whole-or whole part (inr all) = ap (bit_or whole) all ∙ or-same whole

part-below : (limit whole part : ℕ) → whole < limit → IsPart part whole → part < limit
part-below limit whole part below (inl none) = omega arith
part-below limit whole part below (inr all) = omega arith

-- of some fields, a part: each is 0 or what it is there
pub record ArePart (part whole : Fields) : Type 0 where
  pub source : IsPart part.source.value whole.source.value
  pub destination : IsPart part.destination.value whole.destination.value
  pub source_port : IsPart part.source_port whole.source_port
  pub destination_port : IsPart part.destination_port whole.destination_port
  pub protocol : IsPart part.protocol whole.protocol
  pub flags : IsPart part.flags whole.flags
  pub family : IsPart part.source.family whole.source.family
  pub kind : IsPart part.kind whole.kind
  pub time : IsPart part.time whole.time
  pub length : IsPart part.length whole.length

-- no wider than their places in a row
pub record AreNarrow (fields : Fields) : Type 0 where
  pub destination_port : fields.destination_port < 2 ^ 16
  pub protocol : fields.protocol < 2 ^ 8
  pub flags : fields.flags < 2 ^ 8
  pub family : fields.source.family < 2 ^ 8
  pub kind : fields.kind < 2 ^ 8

pub part-narrow : (part whole : Fields) → ArePart part whole → AreNarrow whole → AreNarrow part
part-narrow part whole is narrow = record {
  destination_port = part-below (2 ^ 16) whole.destination_port part.destination_port narrow.destination_port is.destination_port;
  protocol = part-below (2 ^ 8) whole.protocol part.protocol narrow.protocol is.protocol;
  flags = part-below (2 ^ 8) whole.flags part.flags narrow.flags is.flags;
  family = part-below (2 ^ 8) whole.source.family part.source.family narrow.family is.family;
  kind = part-below (2 ^ 8) whole.kind part.kind narrow.kind is.kind;
}

pub nothing-part : (whole : Fields) → ArePart no_fields whole
nothing-part whole = record {
  source = inl refl;
  destination = inl refl;
  source_port = inl refl;
  destination_port = inl refl;
  protocol = inl refl;
  flags = inl refl;
  family = inl refl;
  kind = inl refl;
  time = inl refl;
  length = inl refl;
}

-- the fields of both, with the family of the sources for both addresses
abbrev pub both : Fields → Fields → Fields
both one other = record {
  source = record { family = bit_or one.source.family other.source.family; value = bit_or one.source.value other.source.value };
  destination = record { family = bit_or one.source.family other.source.family; value = bit_or one.destination.value other.destination.value };
  source_port = bit_or one.source_port other.source_port;
  destination_port = bit_or one.destination_port other.destination_port;
  protocol = bit_or one.protocol other.protocol;
  flags = bit_or one.flags other.flags;
  kind = bit_or one.kind other.kind;
  time = bit_or one.time other.time;
  length = bit_or one.length other.length;
}

address-or : (one other : ℕ) → bit_or (one / 2 ^ 64) (other / 2 ^ 64) * 2 ^ 64 + bit_or (one % 2 ^ 64) (other % 2 ^ 64) ≡ bit_or one other
address-or one other =
    ap (λ (high : ℕ). high * 2 ^ 64 + bit_or (one % 2 ^ 64) (other % 2 ^ 64)) (sym (or_shr one other 64))
    ∙ ap (λ (low : ℕ). bit_or one other / 2 ^ 64 * 2 ^ 64 + low) (sym (or_mod one other 64))
    ∙ shr_split (bit_or one other) 64

-- the bits from `low` on, `width` of them
bits-or : (low width one other : ℕ) → bit_or one other / 2 ^ low % 2 ^ width ≡ bit_or (one / 2 ^ low % 2 ^ width) (other / 2 ^ low % 2 ^ width)
bits-or low width one other = ap (λ (n : ℕ). n % 2 ^ width) (or_shr one other low) ∙ or_mod (one / 2 ^ low) (other / 2 ^ low) width

or-both : (a b c d : ℕ) → a ≡ b → c ≡ d → bit_or a c ≡ bit_or b d
or-both a b c d left right = ap (λ (n : ℕ). bit_or n c) left ∙ ap (λ (n : ℕ). bit_or b n) right

-- what the fifth word of a row holds
pub record HasWord (word : ℕ) (fields : Fields) : Type 0 where
  pub source_port : word / 2 ^ 48 ≡ fields.source_port
  pub destination_port : word / 2 ^ 32 % 2 ^ 16 ≡ fields.destination_port
  pub protocol : word / 2 ^ 24 % 2 ^ 8 ≡ fields.protocol
  pub flags : word / 2 ^ 16 % 2 ^ 8 ≡ fields.flags
  pub family : word / 2 ^ 8 % 2 ^ 8 ≡ fields.source.family
  pub kind : word % 2 ^ 8 ≡ fields.kind

packed-word : (fields : Fields) → AreNarrow fields → HasWord (packed fields).w4 fields
packed-word fields narrow =
    let port = narrow.destination_port in
    let protocol = narrow.protocol in
    let flags = narrow.flags in
    let family = narrow.family in
    let kind = narrow.kind in record {
      source_port = omega arith;
      destination_port = omega arith;
      protocol = omega arith;
      flags = omega arith;
      family = omega arith;
      kind = omega arith;
    }

-- fields that a row keeps are read back
pub packed-read : (fields : Fields) → AreNarrow fields → fields.source.family ≡ fields.destination.family → unpacked (packed fields) ≡ fields
packed-read fields narrow family =
    let word = packed-word fields narrow in
    let source = shr_split fields.source.value 64 in
    let destination = shr_split fields.destination.value 64 in
    λ i. record {
      source = record { family = word.family i; value = source i };
      destination = record { family = (word.family ∙ family) i; value = destination i };
      source_port = word.source_port i;
      destination_port = word.destination_port i;
      protocol = word.protocol i;
      flags = word.flags i;
      kind = word.kind i;
      time = fields.time;
      length = fields.length;
    }

-- so are the fields of both, of their rows joined
pub joined-read : (one other : Fields) → AreNarrow one → AreNarrow other → unpacked (joined (packed one) (packed other)) ≡ both one other
joined-read one other one_narrow other_narrow =
    let first = packed-word one one_narrow in
    let second = packed-word other other_narrow in
    let a : ℕ = (packed one).w4 in
    let b : ℕ = (packed other).w4 in
    let source_port : bit_or a b / 2 ^ 48 ≡ bit_or one.source_port other.source_port =
    or_shr a b 48 ∙ or-both (a / 2 ^ 48) one.source_port (b / 2 ^ 48) other.source_port first.source_port second.source_port in
    let destination_port : bit_or a b / 2 ^ 32 % 2 ^ 16 ≡ bit_or one.destination_port other.destination_port =
    bits-or 32 16 a b ∙ or-both (a / 2 ^ 32 % 2 ^ 16) one.destination_port (b / 2 ^ 32 % 2 ^ 16) other.destination_port first.destination_port second.destination_port in
    let protocol : bit_or a b / 2 ^ 24 % 2 ^ 8 ≡ bit_or one.protocol other.protocol =
    bits-or 24 8 a b ∙ or-both (a / 2 ^ 24 % 2 ^ 8) one.protocol (b / 2 ^ 24 % 2 ^ 8) other.protocol first.protocol second.protocol in
    let flags : bit_or a b / 2 ^ 16 % 2 ^ 8 ≡ bit_or one.flags other.flags =
    bits-or 16 8 a b ∙ or-both (a / 2 ^ 16 % 2 ^ 8) one.flags (b / 2 ^ 16 % 2 ^ 8) other.flags first.flags second.flags in
    let family : bit_or a b / 2 ^ 8 % 2 ^ 8 ≡ bit_or one.source.family other.source.family =
    bits-or 8 8 a b ∙ or-both (a / 2 ^ 8 % 2 ^ 8) one.source.family (b / 2 ^ 8 % 2 ^ 8) other.source.family first.family second.family in
    let kind : bit_or a b % 2 ^ 8 ≡ bit_or one.kind other.kind =
    or_mod a b 8 ∙ or-both (a % 2 ^ 8) one.kind (b % 2 ^ 8) other.kind first.kind second.kind in
    let source = address-or one.source.value other.source.value in
    let destination = address-or one.destination.value other.destination.value in
    λ i. record {
      source = record { family = family i; value = source i };
      destination = record { family = family i; value = destination i };
      source_port = source_port i;
      destination_port = destination_port i;
      protocol = protocol i;
      flags = flags i;
      kind = kind i;
      time = bit_or one.time other.time;
      length = bit_or one.length other.length;
    }

-- it doesn't matter which row is joined to which
pub joined-swap : (one other : Row) → joined one other ≡ joined other one
joined-swap one other =
    let w0 = or_comm one.w0 other.w0 in
    let w1 = or_comm one.w1 other.w1 in
    let w2 = or_comm one.w2 other.w2 in
    let w3 = or_comm one.w3 other.w3 in
    let w4 = or_comm one.w4 other.w4 in
    let w5 = or_comm one.w5 other.w5 in
    let w6 = or_comm one.w6 other.w6 in
    λ i. record { w0 = w0 i; w1 = w1 i; w2 = w2 i; w3 = w3 i; w4 = w4 i; w5 = w5 i; w6 = w6 i }
