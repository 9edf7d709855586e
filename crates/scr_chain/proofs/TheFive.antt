-- Each of the five programs keeps a part of a frame's fields, and looks at no others.
use Rattle.std.proofs.Common.{inl, inr, refl}
use Rattle.scr_program.specs.Keys.{five_tuple_of, is_same_address, is_same_tuple, source_of}
use Rattle.scr_program.specs.Kinds.{has_ports, is_packet, is_tcp}
use Rattle.scr_program.specs.Verdicts.{OTHER, pass_drop_other}
use Rattle.scr_bucket.specs.Rows as bucket
use Rattle.scr_bucket.specs.Step as bucket_step
use Rattle.scr_conn.specs.Endpoints.{connection_of, is_same_connection}
use Rattle.scr_conn.specs.Rows as conn
use Rattle.scr_conn.specs.Step as conn_step
use Rattle.scr_conn.specs.Verdicts as conn_verdicts
use Rattle.scr_ddos.specs.Rows as ddos
use Rattle.scr_ddos.specs.Step as ddos_step
use Rattle.scr_heavy.specs.Rows as heavy
use Rattle.scr_heavy.specs.Step as heavy_step
use Rattle.scr_heavy.specs.Verdicts as heavy_verdicts
use Rattle.scr_knock.specs.Rows as knock
use Rattle.scr_knock.specs.Step as knock_step
use Rattle.scr_chain.specs.Five.{Five, Ddos, Heavy, Bucket, Knock, Conn, rules_of}
use Rattle.scr_chain.proofs.Joining.{whole-or}
use Rattle.scr_chain.proofs.OwnRows.{AnswersAlike, Keeps, answers-alike}

ddos-keeps : Keeps is_packet ddos.fields_kept
ddos-keeps = record {
  passed_over = refl;
  part = λ fields. record {
    source = inr refl;
    destination = inl refl;
    source_port = inl refl;
    destination_port = inl refl;
    protocol = inl refl;
    flags = inl refl;
    family = inr refl;
    kind = inr refl;
    time = inl refl;
    length = inl refl;
  };
  kind = λ fields. refl;
  family = λ fields same. refl;
  twice = λ fields. refl;
  stays = λ fields part same is. rw (
    whole-or fields.source.value part.source.value is.source,
    whole-or fields.source.family part.source.family is.family,
    whole-or fields.kind part.kind is.kind,
  ) refl;
}

heavy-keeps : Keeps is_packet heavy.fields_kept
heavy-keeps = record {
  passed_over = refl;
  part = λ fields. record {
    source = inr refl;
    destination = inr refl;
    source_port = inr refl;
    destination_port = inr refl;
    protocol = inr refl;
    flags = inl refl;
    family = inr refl;
    kind = inr refl;
    time = inl refl;
    length = inr refl;
  };
  kind = λ fields. refl;
  family = λ fields same. same;
  twice = λ fields. refl;
  stays = λ fields part same is. rw (
    whole-or fields.source.value part.source.value is.source,
    whole-or fields.destination.value part.destination.value is.destination,
    whole-or fields.source_port part.source_port is.source_port,
    whole-or fields.destination_port part.destination_port is.destination_port,
    whole-or fields.protocol part.protocol is.protocol,
    whole-or fields.length part.length is.length,
    whole-or fields.source.family part.source.family is.family,
    whole-or fields.kind part.kind is.kind,
  ) (λ i. record (heavy.fields_kept fields) { destination = record { family = same i; value = fields.destination.value } });
}

bucket-keeps : Keeps is_packet bucket.fields_kept
bucket-keeps = record {
  passed_over = refl;
  part = λ fields. record {
    source = inr refl;
    destination = inr refl;
    source_port = inr refl;
    destination_port = inr refl;
    protocol = inr refl;
    flags = inl refl;
    family = inr refl;
    kind = inr refl;
    time = inr refl;
    length = inl refl;
  };
  kind = λ fields. refl;
  family = λ fields same. same;
  twice = λ fields. refl;
  stays = λ fields part same is. rw (
    whole-or fields.source.value part.source.value is.source,
    whole-or fields.destination.value part.destination.value is.destination,
    whole-or fields.source_port part.source_port is.source_port,
    whole-or fields.destination_port part.destination_port is.destination_port,
    whole-or fields.protocol part.protocol is.protocol,
    whole-or fields.time part.time is.time,
    whole-or fields.source.family part.source.family is.family,
    whole-or fields.kind part.kind is.kind,
  ) (λ i. record (bucket.fields_kept fields) { destination = record { family = same i; value = fields.destination.value } });
}

knock-keeps : Keeps has_ports knock.fields_kept
knock-keeps = record {
  passed_over = refl;
  part = λ fields. record {
    source = inr refl;
    destination = inl refl;
    source_port = inl refl;
    destination_port = inr refl;
    protocol = inl refl;
    flags = inl refl;
    family = inr refl;
    kind = inr refl;
    time = inl refl;
    length = inl refl;
  };
  kind = λ fields. refl;
  family = λ fields same. refl;
  twice = λ fields. refl;
  stays = λ fields part same is. rw (
    whole-or fields.source.value part.source.value is.source,
    whole-or fields.destination_port part.destination_port is.destination_port,
    whole-or fields.source.family part.source.family is.family,
    whole-or fields.kind part.kind is.kind,
  ) refl;
}

conn-keeps : Keeps is_tcp conn.fields_kept
conn-keeps = record {
  passed_over = refl;
  part = λ fields. record {
    source = inr refl;
    destination = inr refl;
    source_port = inr refl;
    destination_port = inr refl;
    protocol = inr refl;
    flags = inr refl;
    family = inr refl;
    kind = inr refl;
    time = inr refl;
    length = inl refl;
  };
  kind = λ fields. refl;
  family = λ fields same. same;
  twice = λ fields. refl;
  stays = λ fields part same is. rw (
    whole-or fields.source.value part.source.value is.source,
    whole-or fields.destination.value part.destination.value is.destination,
    whole-or fields.source_port part.source_port is.source_port,
    whole-or fields.destination_port part.destination_port is.destination_port,
    whole-or fields.protocol part.protocol is.protocol,
    whole-or fields.flags part.flags is.flags,
    whole-or fields.time part.time is.time,
    whole-or fields.source.family part.source.family is.family,
    whole-or fields.kind part.kind is.kind,
  ) (λ i. record (conn.fields_kept fields) { destination = record { family = same i; value = fields.destination.value } });
}

pub alike : (program : Five) → AnswersAlike (rules_of program)
alike (Ddos settings) =
    answers-alike is_packet ddos.fields_kept ddos-keeps is_same_address source_of settings.flows (ddos_step.outcome settings) OTHER (λ fields. refl) (λ known fields. refl) pass_drop_other
alike (Heavy settings) =
    answers-alike is_packet heavy.fields_kept heavy-keeps is_same_tuple five_tuple_of settings.flows (heavy_step.outcome settings) OTHER (λ fields. refl) (λ known fields. refl) heavy_verdicts.names
alike (Bucket settings) =
    answers-alike is_packet bucket.fields_kept bucket-keeps is_same_tuple five_tuple_of settings.flows (bucket_step.outcome settings) OTHER (λ fields. refl) (λ known fields. refl) pass_drop_other
alike (Knock settings) =
    answers-alike has_ports knock.fields_kept knock-keeps is_same_address source_of settings.flows (knock_step.outcome settings) OTHER (λ fields. refl) (λ known fields. refl) pass_drop_other
alike (Conn settings) =
    answers-alike is_tcp conn.fields_kept conn-keeps is_same_connection connection_of settings.flows (conn_step.outcome settings) conn_verdicts.OTHER (λ fields. refl) (λ known fields. refl) conn_verdicts.names
