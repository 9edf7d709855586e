-- Where the words of the logs stand. Each core has the slots of its log and then its finished word; behind the cores
-- stand the claim word and the halt word. A slot has a tag and the seven words of a row.
-- Numbers of packets are counted from 0 here: `q` stands for packet q + 1.
use Rattle.std.specs.Prelude.{ℕ, ◌+◌, ◌*◌, ◌%◌}

-- how many slots a core may have
abbrev pub most_slots : ℕ
most_slots = 4096

-- how many words a slot has, how many a core, and how many there are in all
abbrev pub slot_size : ℕ
slot_size = 8

abbrev pub core_size : (slots : ℕ) → ℕ
core_size slots = slot_size * slots + 1

abbrev pub word_count : (cores slots : ℕ) → ℕ
word_count cores slots = cores * core_size slots + 2

-- within the words of a core: the tag of packet q + 1, word i of its row, and the finished word. The slots are used in
-- turn, so packets that are a multiple of the slots apart have one slot
unfoldable pub tag_offset : (slots q : ℕ) → ℕ
tag_offset slots q = slot_size * (q % slots)

unfoldable pub data_offset : (slots q i : ℕ) → ℕ
data_offset slots q i = slot_size * (q % slots) + 1 + i

unfoldable pub finished_offset : (slots : ℕ) → ℕ
finished_offset slots = slot_size * slots

-- a word of a core among all words, the claim word and the halt word
unfoldable pub place : (slots core offset : ℕ) → ℕ
place slots core offset = core * core_size slots + offset

unfoldable pub claim_place : (cores slots : ℕ) → ℕ
claim_place cores slots = cores * core_size slots

unfoldable pub halt_place : (cores slots : ℕ) → ℕ
halt_place cores slots = cores * core_size slots + 1
