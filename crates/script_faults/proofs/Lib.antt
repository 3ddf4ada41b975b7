mod RecordSayings
