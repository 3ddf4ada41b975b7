pub mod RecordFault
